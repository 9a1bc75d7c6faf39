-- One line more of a script.
use Rattle.assise_fault_script.proofs.Common.{◌≡◌, ◌⊎◌, ℕ, ◌+◌, ◌-◌, true, false, List, [], ◌∷◌, ◌++◌, length, take, Option, Some, None, Result, Ok, Err, IsOk}
use Rattle.assise_fault_script.proofs.Common.{refl, ap, sym, ◌∙◌, inl, inr, arith, append_assoc, length-append, append-nil, take-append_seam, is_some, Command}
use Rattle.assise_fault_script.proofs.Common.{LineFault, ScriptFault, Memory, NumberedCommand, line_says, Progress, ◌>>>◌, at_line, numbered_command}
use Rattle.assise_fault_script.proofs.Common.{commands_from, with_line, next, commands_of, IsLineReached, IsCommandAt, lines_of}
use Rattle.std.specs.Prelude.{◌||◌}

abbrev Commands : Type 0
Commands = Result (List NumberedCommand) LineFault

-- the commands so far, and then those that are read
abbrev pub with_prefix : List NumberedCommand → Commands → Commands
with_prefix prefix (Ok commands) = Ok (prefix ++ commands)
with_prefix prefix (Err e) = Err e

with_prefix-cons : (prefix : List NumberedCommand) (n : NumberedCommand) (r : Commands) → with_prefix prefix (r >>> λ others. Ok (n ∷ others))
    ≡ with_prefix (prefix ++ n ∷ []) r
with_prefix-cons prefix n (Ok others) = ap Ok (sym (append_assoc prefix (n ∷ []) others))
with_prefix-cons prefix n (Err e) = refl

with_prefix-same : (prefix : List NumberedCommand) (r : Commands) → with_prefix prefix (r >>> λ others. Ok others) ≡ with_prefix prefix r
with_prefix-same prefix (Ok others) = refl
with_prefix-same prefix (Err e) = refl

pub with_prefix-nil : (r : Commands) → with_prefix [] r ≡ r
with_prefix-nil (Ok commands) = refl
with_prefix-nil (Err e) = refl

-- what comes of a script that is read so far, where these lines are left
abbrev pub comes_of : Progress → List (List ℕ) → Commands
comes_of p lines = with_prefix p.commands (commands_from p.number p.built lines)

says_step : (p : Progress) (r : Result (Option Command) ScriptFault) (lines : List (List ℕ)) →
    with_prefix p.commands (at_line p.number r >>> λ command. commands_from (p.number + 1) (is_some command || p.built) lines >>> λ others. Ok
    (numbered_command p.number command others)) ≡ (with_line p r >>> λ q. comes_of q lines)
says_step p (Err e) lines = refl
says_step p (Ok None) lines = with_prefix-same p.commands (commands_from (p.number + 1) p.built lines)
says_step p (Ok (Some command)) lines = with_prefix-cons p.commands record { line = p.number; command = command } (commands_from (p.number + 1) true lines)

pub step : (p : Progress) (line : List ℕ) (lines : List (List ℕ)) → comes_of p (line ∷ lines) ≡ (next p line >>> λ q. comes_of q lines)
step p line lines = says_step p (line_says p.built line) lines

-- the lines in front are read, and these are left
pub record IsReadTo (bytes : List ℕ) (p : Progress) (lines : List (List ℕ)) : Type 0 where
  pub prefix : List (List ℕ)
  pub parts : lines_of bytes ≡ prefix ++ lines
  pub counted : p.number ≡ length prefix + 1
  pub reads : (others : List (List ℕ)) → commands_from 1 false (prefix ++ others) ≡ comes_of p others

-- one line more is read
pub one_read : (bytes : List ℕ) (p q : Progress) (line : List ℕ) (lines whole : List (List ℕ)) → whole ≡ line ∷ lines → IsReadTo bytes p whole →
    next p line ≡ Ok q → q.number ≡ p.number + 1 → IsReadTo bytes q lines
one_read bytes p q line lines whole parts read gives counts = grind (arith, append_assoc, length-append read.prefix (line ∷ []), step)

pub all_read : (bytes : List ℕ) (q : Progress) → IsReadTo bytes q [] → commands_of bytes ≡ Ok q.commands
all_read bytes q read = ap (commands_from 1 false) read.parts ∙ read.reads [] ∙ ap Ok (append-nil q.commands)

-- a line was faulty, or memory ran out
pub faulty : (bytes : List ℕ) (p : Progress) (line : List ℕ) (lines whole : List (List ℕ)) (e y : LineFault) → y ≡ e → whole ≡ line ∷ lines →
    IsReadTo bytes p whole → (e.fault ≡ Memory) ⊎ (next p line ≡ Err e) → (y.fault ≡ Memory) ⊎ (commands_of bytes ≡ Err y)
faulty bytes p line lines whole e y is parts read (inl memory) = inl (ap (λ z. z.fault) is ∙ memory)
faulty bytes p line lines whole e y is parts read (inr fault) = grind (arith, step)

-- a fault of a line that memory was wanting for is no fault of the line
pub weaker : (p : Progress) (line : List ℕ) (e : LineFault) → ((e.fault ≡ Memory) × ((command : Command) × (line_says p.built line ≡ Ok (Some command))))
    ⊎ (next p line ≡ Err e) → (e.fault ≡ Memory) ⊎ (next p line ≡ Err e)
weaker p line e (inl memory) = inl memory.0
weaker p line e (inr fault) = inr fault

-- memory was wanting at a command
pub wanting : (bytes : List ℕ) (p : Progress) (line : List ℕ) (lines whole : List (List ℕ)) (e y : LineFault) → y ≡ e → whole ≡ line ∷ lines →
    IsReadTo bytes p whole → e.line ≡ p.number → ((e.fault ≡ Memory) × ((command : Command) × (line_says p.built line ≡ Ok (Some command))))
    ⊎ (next p line ≡ Err e) → ((y.fault ≡ Memory) × IsCommandAt bytes y.line) ⊎ (commands_of bytes ≡ Err y)
wanting bytes p line lines whole e y is parts read at (inr fault) = grind (arith, step)
wanting bytes p line lines whole e y is parts read at (inl memory) =
    let command = memory.1.0 in
    let number : y.line ≡ p.number = ap (λ z. z.line) is ∙ at in
    let to = read.prefix ++ line ∷ [] in
    let all : lines_of bytes ≡ to ++ lines = read.parts ∙ ap (λ ls. read.prefix ++ ls) parts ∙ sym (append_assoc read.prefix (line ∷ []) lines) in
    let count : y.line ≡ length to = omega (arith, number, read.counted, length-append read.prefix (line ∷ [])) in
    let prefix : take y.line (lines_of bytes) ≡ to = ap (λ n. take n (lines_of bytes)) count ∙ ap (take (length to)) all ∙ take-append_seam to lines in
    let reads : commands_from 1 false to ≡ Ok (p.commands ++ record { line = p.number; command = command } ∷ []) =
    grind arith in
    inl (
    grind arith
    )

is_ok : (r : Commands) (cs : List NumberedCommand) → r ≡ Ok cs → IsOk r
is_ok (Ok ds) cs h = refl
is_ok (Err e) cs h = cc

-- the lines in front of a faulty line have no fault
pub reached : (bytes : List ℕ) (p : Progress) (line : List ℕ) (lines whole : List (List ℕ)) (e y : LineFault) → y ≡ e → whole ≡ line ∷ lines →
    IsReadTo bytes p whole → e.line ≡ p.number → IsLineReached bytes y.line
reached bytes p line lines whole e y is parts read at =
    let number : y.line ≡ length read.prefix + 1 = ap (λ z. z.line) is ∙ at ∙ read.counted in
    let all : lines_of bytes ≡ read.prefix ++ (line ∷ lines) = read.parts ∙ ap (λ ls. read.prefix ++ ls) parts in
    let places : length (lines_of bytes) ≡ length read.prefix + length (line ∷ lines) = ap length all ∙ length-append read.prefix (line ∷ lines) in
    let before : y.line - 1 ≡ length read.prefix = omega (arith, number) in
    let prefix : take (y.line - 1) (lines_of bytes) ≡ read.prefix = grind (arith, take-append_seam) in
    let whole_prefix : take (y.line - 1) (lines_of bytes) ≡ read.prefix ++ [] = prefix ∙ sym (append-nil read.prefix) in
    record {
      first = omega (arith, number);
      last = omega (arith, number, places);
      faultless = is_ok _ _ (ap (commands_from 1 false) whole_prefix ∙ read.reads []);
    }
