-- One line more of what is printed.
use Rattle.assise_console.proofs.Common.{ℕ, List, [], ◌∷◌, ◌++◌, Option, Some, None, Result, Ok, Err, OnOk, refl, ap, sym, subst, ◌∙◌, append_assoc, append-nil}
use Rattle.assise_console.proofs.Common.{Appends, Keeps, NumberedCommand, Response, Told, Prints, line_text, ConsoleState, Serves}

pub appends-none : (u : Option (List ℕ)) → Appends u u []
appends-none None = tt
appends-none (Some xs) = sym (append-nil xs)

pub appends-then : (u v w : Option (List ℕ)) (a b : List ℕ) → Appends u v a → Appends v w b → Appends u w (a ++ b)
appends-then None v w a b x y = tt
appends-then (Some xs) None w a b x y = absurd x
appends-then (Some xs) (Some ys) None a b x y = y
appends-then (Some xs) (Some ys) (Some zs) a b x y = y ∙ ap (λ (t : List ℕ). t ++ b) x ∙ append_assoc xs a b

pub appends-keeps : (u v w : Option (List ℕ)) (a : List ℕ) → Appends u v a → Keeps v w → Appends u w a
appends-keeps None v w a x y = tt
appends-keeps (Some xs) None w a x y = absurd x
appends-keeps (Some xs) (Some ys) None a x y = y
appends-keeps (Some xs) (Some ys) (Some zs) a x y = y ∙ x

pub prints-push : (s : ConsoleState) (ls : List NumberedCommand) (es : Told) (text : List ℕ) (t : ConsoleState) (l : NumberedCommand) (fs : Told) (a : Response)
    (u : ConsoleState) → Prints s ls es text t → Serves t l.command fs a u → Prints s (ls ++ l ∷ []) (es ++ fs) (text ++ line_text l.line u.machine.history a) u
prints-push s [] es text t l fs a u p q = record {
  answer = a;
  next = u;
  now = fs;
  later = [];
  rest = [];
  serves = subst (λ v. Serves v l.command fs a u) p.1.1 q;
  told = ap (λ xs. xs ++ fs) p.0 ∙ sym (append-nil fs);
  line = ap (λ xs. xs ++ line_text l.line u.machine.history a) p.1.0 ∙ sym (append-nil (line_text l.line u.machine.history a));
  others = (refl, (refl, refl));
}
prints-push s (k ∷ ls) es text t l fs a u p q = record {
  answer = p.answer;
  next = p.next;
  now = p.now;
  later = p.later ++ fs;
  rest = p.rest ++ line_text l.line u.machine.history a;
  serves = p.serves;
  told = ap (λ xs. xs ++ fs) p.told ∙ append_assoc p.now p.later fs;
  line = ap (λ xs. xs ++ line_text l.line u.machine.history a) p.line ∙ append_assoc (line_text k.line p.next.machine.history p.answer) p.rest
      (line_text l.line u.machine.history a);
  others = prints-push p.next ls p.later p.rest t l fs a u p.others q;
}

pub on_ok : {X E : Type 0} (r : Result X E) (P Q : Type 0) → OnOk r P → (P → Q) → OnOk r Q
on_ok (Ok x) P Q p f = f p
on_ok (Err e) P Q p f = tt
