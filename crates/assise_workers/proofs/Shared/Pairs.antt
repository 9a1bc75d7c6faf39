-- Lists whose places are tied to one another.
use Rattle.assise_workers.proofs.Common.{◌≡◌, ◌∙◌, suc, List, [], ◌∷◌, ◌++◌, map, length, sym, ap, subst, arith, append-nil, append_assoc, AllZip}

pub all_zip-push : {A B : Type 0} (R : A → B → Type 0) (xs : List A) (ys : List B) (x : A) (y : B) → AllZip R xs ys → R x y →
    AllZip R (xs ++ x ∷ []) (ys ++ y ∷ [])
all_zip-push R [] [] x y all one = (one, tt)
all_zip-push R (a ∷ xs) (b ∷ ys) x y all one = (all.0, all_zip-push R xs ys x y all.1 one)
all_zip-push R _ _ x y all one = absurd all

pub all_zip-map : {H A B : Type 0} (f : H → A) (R : A → B → Type 0) (hs : List H) (ys : List B) → AllZip (λ h y. R (f h) y) hs ys → AllZip R (map f hs) ys
all_zip-map f R [] [] all = tt
all_zip-map f R (h ∷ hs) (b ∷ ys) all = (all.0, all_zip-map f R hs ys all.1)
all_zip-map f R _ _ all = absurd all

pub zip_pushed : {A B : Type 0} (R : A → B → Type 0) (xs : List A) (ys zs : List B) (x : A) (y : B) → zs ≡ ys ++ y ∷ [] → AllZip R xs ys → R x y →
    AllZip R (xs ++ x ∷ []) zs
zip_pushed R xs ys zs x y is all one = subst (AllZip R (xs ++ x ∷ [])) (sym is) (all_zip-push R xs ys x y all one)

pub all_taken : {A : Type 0} (xs rest all : List A) → xs ++ rest ≡ all → length rest ≡ 0 → xs ≡ all
all_taken xs [] all is none = sym (append-nil xs) ∙ is
all_taken xs (y ∷ rest) all is none = absurd (let n : suc (length rest) ≡ 0 = none in omega arith)

pub zip_of_all : {H A B : Type 0} (f : H → A) (R : A → B → Type 0) (hs : List H) (rest all : List A) (ys : List B) → map f hs ++ rest ≡ all → length rest ≡ 0
    → AllZip (λ h y. R (f h) y) hs ys → AllZip R all ys
zip_of_all f R hs rest all ys is none zip = subst (λ z. AllZip R z ys) (all_taken (map f hs) rest all is none) (all_zip-map f R hs ys zip)

pub one_taken : {A : Type 0} (xs : List A) (x : A) (before rest all : List A) → before ≡ x ∷ rest → xs ++ before ≡ all → (xs ++ x ∷ []) ++ rest ≡ all
one_taken xs x before rest all is whole = append_assoc xs (x ∷ []) rest ∙ (ap (λ z. xs ++ z) (sym is) ∙ whole)
