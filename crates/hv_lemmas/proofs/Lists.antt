-- Lists that loops go along.
use Rattle.std.proofs.Common.{◌≡◌, ℕ, suc, List, [], ◌∷◌, ◌++◌, refl, sym, ap, ◌∙◌, ◌+◌, ◌<◌, add-one, length, drop, take, get_or, drop-cons, append_assoc, append-nil}

-- the part at i stands first among those from i on
pub first_left : {A : Type 0} (parts : List A) (i : ℕ) (part : A) → i < length parts → part ≡ get_or parts i part → drop i parts ≡ part ∷ drop (i + 1) parts
first_left parts i part within is = drop-cons parts i part within ∙ ap (λ x. x ∷ drop (suc i) parts) (sym is) ∙ ap (λ n. part ∷ drop n parts) (sym (add-one i))

-- what is found so far, and what is left to find
pub extended : {A : Type 0} (was now piece rest left whole : List A) → now ≡ was ++ piece → left ≡ piece ++ rest → was ++ left ≡ whole → now ++ rest ≡ whole
extended was now piece rest left whole e f g = ap (λ t. t ++ rest) e ∙ append_assoc was piece rest ∙ ap (λ t. was ++ t) (sym f) ∙ g

-- ---- what is found in parts one after the other

pub nothing : {A : Type 0} (was all : List A) → all ≡ [] → was ≡ was ++ all
nothing was all e = sym (append-nil was) ∙ ap (λ l. was ++ l) (sym e)

pub two : {A : Type 0} (was now then a b all : List A) → now ≡ was ++ a → then ≡ now ++ b → all ≡ a ++ b → then ≡ was ++ all
two was now then a b all e f g = f ∙ ap (λ l. l ++ b) e ∙ append_assoc was a b ∙ ap (λ l. was ++ l) (sym g)

pub three : {A : Type 0} (was now then end a b c all : List A) → now ≡ was ++ a → then ≡ now ++ b → end ≡ then ++ c → all ≡ a ++ (b ++ c) → end ≡ was ++ all
three was now then end a b c all e f g h = g ∙ ap (λ l. l ++ c) (two was now then a b (a ++ b) e f refl) ∙ append_assoc was (a ++ b) c ∙ ap (λ l. was ++ l) (append_assoc a b c ∙ sym h)

pub four : {A : Type 0} (was now then next end a b c d all : List A) → now ≡ was ++ a → then ≡ now ++ b → next ≡ then ++ c → end ≡ next ++ d → all ≡ a ++ (b ++ (c ++ d)) → end ≡ was ++ all
four was now then next end a b c d all e f g h i = three now then next end b c d (b ++ (c ++ d)) f g h refl ∙ ap (λ l. l ++ (b ++ (c ++ d))) e ∙ append_assoc was a (b ++ (c ++ d)) ∙ ap (λ l. was ++ l) (sym i)

pub nothing_added : {A : Type 0} (was more : List A) → more ≡ [] → was ≡ was ++ more
nothing_added was more e = sym (ap (λ t. was ++ t) e ∙ append-nil was)

-- one item, and then a piece
pub two_added : {A : Type 0} (was then now piece : List A) (x : A) → then ≡ was ++ x ∷ [] → now ≡ then ++ piece → now ≡ was ++ (x ∷ piece)
two_added was then now piece x e f = f ∙ ap (λ t. t ++ piece) e ∙ append_assoc was (x ∷ []) piece

-- an argument, with what closes behind all of them
pub arg_added : {A : Type 0} (was now a b rest one more all left whole : List A) (x : A) →
    now ≡ was ++ (x ∷ (a ++ b)) → left ≡ x ∷ (a ++ (b ++ (rest ++ one))) → all ≡ one ++ more → was ++ (left ++ more) ≡ whole → now ++ (rest ++ all) ≡ whole
arg_added was now a b rest one more all left whole x e f g h =
    ap (λ t. t ++ (rest ++ all)) e
    ∙ append_assoc was (x ∷ (a ++ b)) (rest ++ all)
    ∙ ap (λ t. was ++ (x ∷ t)) (append_assoc a b (rest ++ all) ∙ ap (λ t. a ++ (b ++ (rest ++ t))) g ∙ ap (λ t. a ++ (b ++ t)) (sym (append_assoc rest one more))
    ∙ ap (λ t. a ++ t) (sym (append_assoc b (rest ++ one) more)) ∙ sym (append_assoc a (b ++ (rest ++ one)) more))
    ∙ ap (λ t. was ++ (t ++ more)) (sym f) ∙ h

-- ---- a front that stays

pub front_kept : {A : Type 0} (a b c : List A) → take (length a) b ≡ a → take (length a) (b ++ c) ≡ a
front_kept [] b c e = refl
front_kept (x ∷ a) [] c e = cc
front_kept (x ∷ a) (y ∷ b) c e =
    let first : y ≡ x = cc in
    let rest : take (length a) b ≡ a = cc in
    ap (λ z. z ∷ take (length a) (b ++ c)) first ∙ ap (λ l. x ∷ l) (front_kept a b c rest)

pub front_of : {A : Type 0} (a b : List A) → take (length a) (a ++ b) ≡ a
front_of [] b = refl
front_of (x ∷ a) b = ap (λ l. x ∷ l) (front_of a b)
