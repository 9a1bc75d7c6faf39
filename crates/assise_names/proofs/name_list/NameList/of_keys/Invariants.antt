use Rattle.assise_names.proofs.Common.{◌≡◌, ◌++◌, keys_of}
use Rattle.assise_names.proofs.name_list.NameList.of_keys.Given as goal

-- with the keys that are left the names are all keys
abbrev pub invariant-loop-name : goal.invariant-loop-name
invariant-loop-name g l = l.names.items ++ l.name-iterator ≡ keys_of l.map.entries
