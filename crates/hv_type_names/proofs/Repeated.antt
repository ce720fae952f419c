-- Names of which one before has the same text: what is found and what the rule says.
use Rattle.std.proofs.Common.{◌≡◌, ◌⊎◌, inl, inr, ℕ, suc, Bool, true, false, if◌then◌else◌, List, [], ◌∷◌, ◌++◌, Option, Some, is_some, refl, sym, ap, ◌∙◌, append_assoc, append-nil}
use Rattle.std.specs.Str.{bytes_eq}
use Rattle.std.specs.Cmp.Lexicographic.{bytes_decides}
use Rattle.hv_tree.specs.declared.place.Place.{Place}
use Rattle.hv_tree.specs.declared.types.Name.{Name}
use Rattle.hv_tree.specs.declared.refusal.Rule.TheVariants as rule
use Rattle.hv_tree.specs.declared.refusal.Refusal.{Refusal}
use Rattle.hv_type_rules.specs.Names.{Named, Repeats}
use Rattle.hv_symbols.specs.Texts.{index_from, index_of, has}
use Rattle.hv_type_names.specs.Found as spec
use Rattle.hv_lemmas.proofs.Members.{Among, in_left, in_right, either_in, listed, contained}

-- ---- whether a text is in a list

abbrev pub Has : List (List ℕ) → List ℕ → Type 0
Has [] text = ⊥
Has (t ∷ ts) text = (t ≡ text) ⊎ Has ts text

has_from : (b : Bool) (n : ℕ) (t : List ℕ) (ts : List (List ℕ)) (text : List ℕ) → bytes_eq text t ≡ b → (is_some (index_from (suc n) ts text) ≡ true → Has ts text) →
    is_some (if b then Some n else index_from (suc n) ts text) ≡ true → Has (t ∷ ts) text
has_from true n t ts text e f h = inl (sym ((bytes_decides text t).0 e))
has_from false n t ts text e f h = inr (f h)

there_from : (n : ℕ) (ts : List (List ℕ)) (text : List ℕ) → is_some (index_from n ts text) ≡ true → Has ts text
there_from n [] text h = cc
there_from n (t ∷ ts) text h = has_from (bytes_eq text t) n t ts text refl (there_from (suc n) ts text) h

some_if : (b : Bool) (n : ℕ) (o : Option ℕ) → (b ≡ false → is_some o ≡ true) → is_some (if b then Some n else o) ≡ true
some_if true n o f = refl
some_if false n o f = f refl

from_there : (n : ℕ) (ts : List (List ℕ)) (text : List ℕ) → Has ts text → is_some (index_from n ts text) ≡ true
from_there n [] text h = absurd h
from_there n (t ∷ ts) text (inl e) = some_if (bytes_eq text t) n (index_from (suc n) ts text) (λ f. let g : true ≡ false = sym ((bytes_decides text t).1 (sym e)) ∙ f in cc)
from_there n (t ∷ ts) text (inr h) = some_if (bytes_eq text t) n (index_from (suc n) ts text) (λ f. from_there (suc n) ts text h)

pub is_there : (ts : List (List ℕ)) (text : List ℕ) → has ts text ≡ true → Has ts text
unfolding index_of
is_there ts text h = there_from 0 ts text h

pub there_is : (ts : List (List ℕ)) (text : List ℕ) → Has ts text → has ts text ≡ true
unfolding index_of
there_is ts text h = from_there 0 ts text h

pub has_left : (a b : List (List ℕ)) (text : List ℕ) → Has a text → Has (a ++ b) text
has_left [] b text h = absurd h
has_left (t ∷ a) b text (inl e) = inl e
has_left (t ∷ a) b text (inr h) = inr (has_left a b text h)

pub has_right : (a b : List (List ℕ)) (text : List ℕ) → Has b text → Has (a ++ b) text
has_right [] b text h = h
has_right (t ∷ a) b text h = inr (has_right a b text h)

pub has_either : (a b : List (List ℕ)) (text : List ℕ) → Has (a ++ b) text → Has a text ⊎ Has b text
has_either [] b text h = inr h
has_either (t ∷ a) b text (inl e) = inl (inl e)
has_either (t ∷ a) b text (inr h) = by (has_either a b text h)
  where
    by : Has a text ⊎ Has b text → Has (t ∷ a) text ⊎ Has b text
    by (inl i) = inl (inr i)
    by (inr i) = inr i

-- a text of names, and the name
pub named_of : (names : List Name) (text : List ℕ) → Has (spec.texts_of names) text → Named names text
named_of names text h = let o = out names h in (o.0, contained names o.0 o.1, o.2)
  where
    out : (ns : List Name) → Has (spec.texts_of ns) text → (n : Name) × Among ns n × (n.text ≡ text)
    out [] h = absurd h
    out (n ∷ ns) (inl e) = (n, inl refl, e)
    out (n ∷ ns) (inr h) = let o = out ns h in (o.0, inr o.1, o.2)

pub has_of : (names : List Name) (text : List ℕ) → Named names text → Has (spec.texts_of names) text
has_of names text (n, c, e) = into names n (listed names n c) e
  where
    into : (ns : List Name) (n : Name) → Among ns n → n.text ≡ text → Has (spec.texts_of ns) text
    into [] n h e = absurd h
    into (m ∷ ns) n (inl f) e = inl (ap (λ (x : Name). x.text) f ∙ e)
    into (m ∷ ns) n (inr h) e = inr (into ns n h e)

-- ---- repeats

-- a name of the list has a text that is known or that one before it has
pub record Again (known : List (List ℕ)) (names : List Name) (r : Refusal) : Type 0 where
  pub before : List Name
  pub again : Name
  pub after : List Name
  pub is : names ≡ before ++ again ∷ after
  pub there : Has (known ++ spec.texts_of before) again.text
  pub found : spec.refusal rule.N1 again.place ≡ r

only_true : (b : Bool) (x r : Refusal) → Among (spec.only b x) r → (b ≡ true) × (x ≡ r)
only_true true x r (inl e) = (refl, e)
only_true true x r (inr h) = absurd h
only_true false x r h = absurd h

pub out_only : (b : Bool) (x r : Refusal) → Among (spec.only b x) r → (b ≡ true) × (x ≡ r)
out_only b x r h = only_true b x r h

pub into_only : (b : Bool) (x r : Refusal) → b ≡ true → x ≡ r → Among (spec.only b x) r
into_only b x r e f = rw e (inl f)

pub repeats_sound : (known : List (List ℕ)) (names : List Name) (r : Refusal) → Among (spec.repeats_found known names) r → Again known names r
repeats_sound known [] r h = absurd h
repeats_sound known (n ∷ ns) r h = by (either_in (spec.again_found known n) (spec.repeats_found (known ++ n.text ∷ []) ns) r h) (repeats_sound (known ++ n.text ∷ []) ns r)
  where
    by : Among (spec.again_found known n) r ⊎ Among (spec.repeats_found (known ++ n.text ∷ []) ns) r → (Among (spec.repeats_found (known ++ n.text ∷ []) ns) r → Again (known ++ n.text ∷ []) ns r) → Again known (n ∷ ns) r
    by (inl i) f =
        let o = out_only (has known n.text) (spec.refusal rule.N1 n.place) r i in
        record { before = []; again = n; after = ns; is = refl; there = rw (append-nil known) (is_there known n.text o.0); found = o.1 }
    by (inr i) f =
        let a = f i in
        record {
          before = n ∷ a.before;
          again = a.again;
          after = a.after;
          is = ap (λ l. n ∷ l) a.is;
          there = rw (← append_assoc known (n.text ∷ []) (spec.texts_of a.before)) a.there;
          found = a.found;
        }

pub repeats_whole : (before : List Name) (known : List (List ℕ)) (again : Name) (after : List Name) → Has (known ++ spec.texts_of before) again.text → Among (spec.repeats_found known (before ++ again ∷ after)) (spec.refusal rule.N1 again.place)
repeats_whole [] known again after h =
    in_left (spec.again_found known again) (spec.repeats_found (known ++ again.text ∷ []) after) (spec.refusal rule.N1 again.place)
    (into_only (has known again.text) (spec.refusal rule.N1 again.place) (spec.refusal rule.N1 again.place) (there_is known again.text (rw (← append-nil known) h)) refl)
repeats_whole (n ∷ before) known again after h =
    in_right (spec.again_found known n) (spec.repeats_found (known ++ n.text ∷ []) (before ++ again ∷ after)) (spec.refusal rule.N1 again.place)
    (repeats_whole before (known ++ n.text ∷ []) again after (rw (append_assoc known (n.text ∷ []) (spec.texts_of before)) h))

-- what is found in a list from nothing is what the rule says
pub repeats_meet : (names : List Name) (r : Refusal) → Among (spec.repeats_found [] names) r → Repeats names r.place × (r.rule ≡ rule.N1)
repeats_meet names r h = let a = repeats_sound [] names r h in
    (record { before = a.before; again = a.again; after = a.after; is = a.is; known = named_of a.before a.again.text a.there; at = ap (λ (x : Refusal). x.place) a.found }, sym (ap (λ (x : Refusal). x.rule) a.found))

pub repeats_all : (names : List Name) (place : Place) → Repeats names place → Among (spec.repeats_found [] names) (spec.refusal rule.N1 place)
repeats_all names place h =
    rw (h.is, ← h.at) (repeats_whole h.before [] h.again h.after (has_of h.before h.again.text h.known))
