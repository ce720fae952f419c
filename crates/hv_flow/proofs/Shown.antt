-- The traces of a flow with its marks as acts.
use Rattle.std.proofs.Common.{◌≡◌, inl, inr, List, [], ◌∷◌, ◌++◌, map, refl, sym, ◌∙◌, ap}
use Rattle.hv_rules.specs.Flow.{Skip, Do, Stop, Then, Either, Loop, Turns, none, more, Ends, Leaves, IsWhole}
use Rattle.hv_rules.specs.Events.{Mark, Events}
use Rattle.hv_flow.specs.Acts.{Act, act_of, acts_of}
use Rattle.hv_flow.specs.Walks.{EndsAlone}

pub map_two : (xs ys : List Mark) → map act_of (xs ++ ys) ≡ map act_of xs ++ map act_of ys
map_two [] ys = refl
map_two (x ∷ xs) ys = ap (λ (w : List Act). act_of x ∷ w) (map_two xs ys)

-- ---- acts of a trace

turns_shown : (P : List Mark → Type 0) (Q : List Act → Type 0) → ((ms : List Mark) → P ms → Q (map act_of ms)) → (ms : List Mark) → Turns P ms → Turns Q (map act_of ms)
turns_shown P Q one ms (none e) = none (ap (λ (w : List Mark). map act_of w) e)
turns_shown P Q one ms (more xs ys p q e) = more (map act_of xs) (map act_of ys) (one xs p) (turns_shown P Q one ys q) (ap (λ (w : List Mark). map act_of w) e ∙ map_two xs ys)

pub ends_shown : (f : Events) (ms : List Mark) → Ends f ms → Ends (acts_of f) (map act_of ms)
ends_shown Skip ms h = ap (λ (w : List Mark). map act_of w) h
ends_shown (Do m) ms h = ap (λ (w : List Mark). map act_of w) h
ends_shown (Stop m) ms h = h
ends_shown (Then a b) ms (xs, ys, p, q, e) = (map act_of xs, map act_of ys, ends_shown a xs p, ends_shown b ys q, ap (λ (w : List Mark). map act_of w) e ∙ map_two xs ys)
ends_shown (Either a b) ms (inl h) = inl (ends_shown a ms h)
ends_shown (Either a b) ms (inr h) = inr (ends_shown b ms h)
ends_shown (Loop a) ms h = turns_shown (Ends a) (Ends (acts_of a)) (ends_shown a) ms h

pub leaves_shown : (f : Events) (ms : List Mark) → Leaves f ms → Leaves (acts_of f) (map act_of ms)
leaves_shown Skip ms h = h
leaves_shown (Do m) ms h = h
leaves_shown (Stop m) ms h = ap (λ (w : List Mark). map act_of w) h
leaves_shown (Then a b) ms (inl h) = inl (leaves_shown a ms h)
leaves_shown (Then a b) ms (inr (xs, ys, p, q, e)) = inr (map act_of xs, map act_of ys, ends_shown a xs p, leaves_shown b ys q, ap (λ (w : List Mark). map act_of w) e ∙ map_two xs ys)
leaves_shown (Either a b) ms (inl h) = inl (leaves_shown a ms h)
leaves_shown (Either a b) ms (inr h) = inr (leaves_shown b ms h)
leaves_shown (Loop a) ms (xs, ys, p, q, e) =
    (map act_of xs, map act_of ys, turns_shown (Ends a) (Ends (acts_of a)) (ends_shown a) xs p, leaves_shown a ys q, ap (λ (w : List Mark). map act_of w) e ∙ map_two xs ys)

pub whole_shown : (f : Events) (ms : List Mark) → IsWhole f ms → IsWhole (acts_of f) (map act_of ms)
whole_shown f ms (inl h) = inl (ends_shown f ms h)
whole_shown f ms (inr h) = inr (leaves_shown f ms h)

-- ---- and the other way

-- marks with these acts
pub record Marked (P : List Mark → Type 0) (es : List Act) : Type 0 where
  pub marks : List Mark
  pub is : P marks
  pub shown : es ≡ map act_of marks

two_marked : (P Q R : List Mark → Type 0) → ((xs ys : List Mark) → P xs → Q ys → R (xs ++ ys)) → (us vs es : List Act) → Marked P us → Marked Q vs → es ≡ us ++ vs → Marked R es
two_marked P Q R both us vs es p q e = record {
  marks = p.marks ++ q.marks;
  is = both p.marks q.marks p.is q.is;
  shown = e ∙ (ap (λ (w : List Act). w ++ vs) p.shown ∙ (ap (λ (w : List Act). map act_of p.marks ++ w) q.shown ∙ sym (map_two p.marks q.marks)));
}

other_marked : (P R : List Mark → Type 0) → ((ms : List Mark) → P ms → R ms) → (es : List Act) → Marked P es → Marked R es
other_marked P R to es p = record { marks = p.marks; is = to p.marks p.is; shown = p.shown }

turns_marked : (P : List Mark → Type 0) (Q : List Act → Type 0) → ((es : List Act) → Q es → Marked P es) → (es : List Act) → Turns Q es → Marked (Turns P) es
turns_marked P Q one es (none e) = record { marks = []; is = none refl; shown = e }
turns_marked P Q one es (more us vs p q e) = two_marked P (Turns P) (Turns P) (λ xs ys s t. more xs ys s t refl) us vs es (one us p) (turns_marked P Q one vs q) e

pub ends_marked : (f : Events) (es : List Act) → Ends (acts_of f) es → Marked (Ends f) es
ends_marked Skip es h = record { marks = []; is = refl; shown = h }
ends_marked (Do m) es h = record { marks = m ∷ []; is = refl; shown = h }
ends_marked (Stop m) es h = absurd h
ends_marked (Then a b) es (us, vs, p, q, e) = two_marked (Ends a) (Ends b) (Ends (Then a b)) (λ xs ys s t. (xs, ys, s, t, refl)) us vs es (ends_marked a us p) (ends_marked b vs q) e
ends_marked (Either a b) es (inl h) = other_marked (Ends a) (Ends (Either a b)) (λ ms s. inl s) es (ends_marked a es h)
ends_marked (Either a b) es (inr h) = other_marked (Ends b) (Ends (Either a b)) (λ ms s. inr s) es (ends_marked b es h)
ends_marked (Loop a) es h = turns_marked (Ends a) (Ends (acts_of a)) (ends_marked a) es h

pub leaves_marked : (f : Events) (es : List Act) → Leaves (acts_of f) es → Marked (Leaves f) es
leaves_marked Skip es h = absurd h
leaves_marked (Do m) es h = absurd h
leaves_marked (Stop m) es h = record { marks = m ∷ []; is = refl; shown = h }
leaves_marked (Then a b) es (inl h) = other_marked (Leaves a) (Leaves (Then a b)) (λ ms s. inl s) es (leaves_marked a es h)
leaves_marked (Then a b) es (inr (us, vs, p, q, e)) =
    two_marked (Ends a) (Leaves b) (Leaves (Then a b)) (λ xs ys s t. inr (xs, ys, s, t, refl)) us vs es (ends_marked a us p) (leaves_marked b vs q) e
leaves_marked (Either a b) es (inl h) = other_marked (Leaves a) (Leaves (Either a b)) (λ ms s. inl s) es (leaves_marked a es h)
leaves_marked (Either a b) es (inr h) = other_marked (Leaves b) (Leaves (Either a b)) (λ ms s. inr s) es (leaves_marked b es h)
leaves_marked (Loop a) es (us, vs, p, q, e) =
    two_marked (Turns (Ends a)) (Leaves a) (Leaves (Loop a)) (λ xs ys s t. (xs, ys, s, t, refl)) us vs es (turns_marked (Ends a) (Ends (acts_of a)) (ends_marked a) us p) (leaves_marked a vs q) e

pub whole_marked : (f : Events) (es : List Act) → IsWhole (acts_of f) es → Marked (IsWhole f) es
whole_marked f es (inl h) = other_marked (Ends f) (IsWhole f) (λ ms s. inl s) es (ends_marked f es h)
whole_marked f es (inr h) = other_marked (Leaves f) (IsWhole f) (λ ms s. inr s) es (leaves_marked f es h)

pub alone_shown : (f : Events) → EndsAlone f → EndsAlone (acts_of f)
alone_shown Skip p = p
alone_shown (Do m) p = p
alone_shown (Stop m) p = p
alone_shown (Then a b) p = alone_shown b p
alone_shown (Either a b) p = p
alone_shown (Loop a) p = p
