use Rattle.assise_manager.proofs.Common.{◌≡◌, ◌≤◌, ◌<◌, ◌∙◌, sym, map, length, length-map, listed_inodes}
use Rattle.assise_manager.proofs.Places.{one_less}
use Rattle.assise_manager.proofs.members.Members.first_listed.Goals as goal

pub returns : goal.returns
returns c =
    let within : length (map listed_inodes c.args.self.now.written.items) ≤ c.args.self.now.epoch = c.args.self.now.lawful.lists in
    let as_many = length-map c.args.self.now.written.items listed_inodes in
    let few = c.args.self.now.written.ok.0 in
    let some : 0 < length (map listed_inodes c.args.self.now.written.items) = c.requires.some in
    let len : c.len.result ≡ c.args.self.now.written.len = c.len.ensures in
    one_less _ _ _ (len ∙ few ∙ sym as_many) some within
