-- Frames that are carried, one after another.
use Rattle.assise_workers.proofs.Common.{◌≡◌, ◌∙◌, ℕ, ◌+◌, ◌≤◌, ap, arith, Bool, true, false, List, [], ◌∷◌, ◌++◌, map, None, Some, Result, Ok, Err, refl, sym}
use Rattle.assise_workers.proofs.Common.{subst, append_assoc, is_ok, min, AllByRecursion, map-append, Refusal, EntryValue, InOneTurn, Answer, ClusterEvent}
use Rattle.assise_workers.proofs.Common.{deliver, received, HasCarried, HasDone, IsRead, AreReadBy, letter_of, letters_seen}
use Rattle.std.specs.Int.{from_bool}
use Rattle.std.proofs.lemmas.Bool.Decides.{nat_tests}
use Rattle.assise_machine.specs.Answers.{delivery_answer}
use Rattle.assise_record.specs.LogFrame.{LogFrame}
use Rattle.assise_rounds.specs.Rounds.{AreSame, Carried, IsSame, deliveries, delivery, letter, taken}
use Rattle.assise_workers.specs.Taking.{taken_for}
use Rattle.assise_workers.specs.declared.letter.Letter.{Letter}

min_le : (a b : ℕ) → min a b ≤ a
min_le a b = grind (arith, nat_tests)

min_small : (a b : ℕ) → a ≤ b → min a b ≡ a
min_small a b low = grind (arith, nat_tests)

-- one where it was taken in
pub one_if_ok : (r : Result ℕ Refusal) (b : Bool) (count : ℕ) → b ≡ is_ok r → count ≡ from_bool b → count ≡ taken_for (delivery_answer r)
one_if_ok (Ok place) b count is one = (let x : b ≡ true = is in one ∙ ap from_bool x)
one_if_ok (Err q) b count is one = (let x : b ≡ false = is in one ∙ ap from_bool x)

-- ---- lists of what was carried

deliveries-append : (cs ds : List Carried) → deliveries (cs ++ ds) ≡ deliveries cs ++ deliveries ds
deliveries-append [] ds = refl
deliveries-append (c ∷ cs) ds =
    ap (λ es. delivery c.node c.came ++ es) (deliveries-append cs ds) ∙ sym (append_assoc (delivery c.node c.came) (deliveries cs) (deliveries ds))

all-append : (P : Carried → Type 0) (cs ds : List Carried) → AllByRecursion P cs → AllByRecursion P ds → AllByRecursion P (cs ++ ds)
all-append P [] ds all more = more
all-append P (c ∷ cs) ds (first, all) more = (first, all-append P cs ds all more)

taken-append : (cs ds : List Carried) → taken (cs ++ ds) ≡ taken cs + taken ds
taken-append [] ds = (let none : taken [] ≡ 0 = refl in omega (arith, none))
taken-append (c ∷ cs) ds = (let rest = taken-append cs ds in grind arith)

-- what wasn't sent on
abbrev kept : LogFrame × ℕ → Carried
kept l = record { frame = l.0; node = l.1; came = None }

all_kept : (reads : ℕ → ℕ) (ls : List (LogFrame × ℕ)) → (map letter (map kept ls) ≡ ls) × (deliveries (map kept ls) ≡ []) × (taken (map kept ls) ≡ 0)
    × AreSame (map kept ls) × AllByRecursion (λ c. IsRead (reads c.node) c.came) (map kept ls)
all_kept reads [] = (refl, refl, refl, tt, tt)
all_kept reads (l ∷ ls) = (let rest = all_kept reads ls in (ap (λ ks. l ∷ ks) rest.0, rest.1, rest.2, (tt, rest.3), (tt, rest.4)))

-- how many are taken in of one that came
one_taken : (f g : LogFrame) (n : ℕ) (a : Answer) → taken (record { frame = f; node = n; came = Some (g, a) } ∷ []) ≡ taken_for a
one_taken f g n (received place) = refl
one_taken f g n _ = refl

-- ---- what came of letters

module _ {S : Type 0} (history : S → List EntryValue) (acts : S → ClusterEvent → Answer → S → Type 0) where
  done-append : (xs ys : List (ClusterEvent × Answer)) (a b d : List EntryValue) → HasDone history acts xs a b → HasDone history acts ys b d →
      HasDone history acts (xs ++ ys) a d
  done-append [] ys a b d same more = subst (λ z. HasDone history acts ys z d) same more
  done-append (x ∷ xs) ys a b d (mid, (first, rest)) more = (mid, (first, done-append xs ys mid b d rest more))

  module _ (F : Type 0) (reads : ℕ → ℕ) where
    -- none of these was sent
    pub none_carried : (ls : List (LogFrame × ℕ)) (a : List EntryValue) → HasCarried history acts F reads ls 0 a a
    none_carried ls a = (let none = all_kept reads ls in record {
      carried = map kept ls;
      all = none.0;
      same = λ faithful. none.3;
      read = none.4;
      done = subst (λ es. HasDone history acts es a a) (sym none.1) refl;
      counts = record { few = omega (arith, none.2); all = λ less. sym none.2 };
    })

    -- one came, and was answered so
    pub one_carried : (f g : LogFrame) (n count : ℕ) (x : Answer) (a b : List EntryValue) → (F → g ≡ f) → g.version ≤ reads n → count ≡ taken_for x →
        InOneTurn history acts (deliver g n) x a b → HasCarried history acts F reads ((f, n) ∷ []) count a b
    one_carried f g n count x a b same read is turn = record {
      carried = record { frame = f; node = n; came = Some (g, x) } ∷ [];
      all = refl;
      same = λ faithful. (same faithful, tt);
      read = (read, tt);
      done = (b, (turn, refl));
      counts = (let one = one_taken f g n x in record { few = omega (arith, is, one); all = λ less. is ∙ sym one });
    }

    -- then others: the count of both, as far as it goes
    pub then_carried : (ls ms : List (LogFrame × ℕ)) (n k both : ℕ) (a b d : List EntryValue) → both ≡ min (n + k) 18446744073709551615
        → HasCarried history acts F reads ls n a b → HasCarried history acts F reads ms k b d → HasCarried history acts F reads (ls ++ ms) both a d
    then_carried ls ms n k both a b d is x y =
        let sum = taken-append x.carried y.carried in
        record {
          carried = x.carried ++ y.carried;
          all = map-append letter x.carried y.carried ∙ ap (λ ks. ks ++ map letter y.carried) x.all ∙ ap (λ ks. ls ++ ks) y.all;
          same = λ faithful. all-append (λ c. IsSame c.frame c.came) x.carried y.carried (x.same faithful) (y.same faithful);
          read = all-append (λ c. IsRead (reads c.node) c.came) x.carried y.carried x.read y.read;
          done = subst (λ es. HasDone history acts es a d) (sym (deliveries-append x.carried y.carried))
              (done-append (deliveries x.carried) (deliveries y.carried) a b d x.done y.done);
          counts = record {
            few = (let m = min_le (n + k) 18446744073709551615 in omega (arith, is, sum, x.counts.few, y.counts.few, m));
            all = λ less. (let e = x.counts.all (omega (arith, sum, less)) in let f = y.counts.all (omega (arith, sum, less)) in
                let m = min_small (n + k) 18446744073709551615 (omega (arith, sum, less, e, f)) in omega (arith, is, sum, e, f, m));
          };
        }

    -- these went, and then one more
    pub one_more_carried : (ls : List Letter) (l : Letter) (n k both : ℕ) (a b d : List EntryValue) → both ≡ min (n + k) 18446744073709551615
        → HasCarried history acts F reads (letters_seen ls) n a b → HasCarried history acts F reads (letter_of l ∷ []) k b d →
        HasCarried history acts F reads (letters_seen (ls ++ l ∷ [])) both a d
    one_more_carried ls l n k both a b d is x y =
        subst (λ ms. HasCarried history acts F reads ms both a d) (sym (map-append letter_of ls (l ∷ [])))
        (then_carried (letters_seen ls) (letter_of l ∷ []) n k both a b d is x y)

    -- these went, then one more, and the rest didn't
    pub rest_kept : (ls : List Letter) (l : Letter) (rest all : List Letter) (n k : ℕ) (a b d : List EntryValue) → ls ++ l ∷ rest ≡ all
        → HasCarried history acts F reads (letters_seen ls) n a b → HasCarried history acts F reads (letter_of l ∷ []) k b d →
        (x : ℕ) × HasCarried history acts F reads (letters_seen all) x a d
    rest_kept ls l rest all n k a b d whole x y =
        let one = then_carried (letters_seen ls) (letter_of l ∷ []) n k (min (n + k) 18446744073709551615) a b d refl x y in
        let both = min (min (n + k) 18446744073709551615 + 0) 18446744073709551615 in
        let more = then_carried (letters_seen ls ++ letter_of l ∷ []) (letters_seen rest) (min (n + k) 18446744073709551615) 0 both a d d refl one
        (none_carried (letters_seen rest) d) in (
          both,
          subst (λ ms. HasCarried history acts F reads ms both a d)
              (append_assoc (letters_seen ls) (letter_of l ∷ []) (letters_seen rest) ∙ (sym (map-append letter_of ls (l ∷ rest)) ∙ ap letters_seen whole)) more,
        )

-- ---- what is read

-- of these and of those behind them
pub read_parts : (reads : ℕ → ℕ) (ls ms : List Letter) → AreReadBy reads (ls ++ ms) → AreReadBy reads ls × AreReadBy reads ms
read_parts reads [] ms all = (tt, all)
read_parts reads (l ∷ ls) ms (first, all) = (let rest = read_parts reads ls ms all in ((first, rest.0), rest.1))
