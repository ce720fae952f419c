-- The bytes that begin a character are as many as the characters.
use Rattle.std.proofs.Common.{◌≡◌, ℕ, Bool, true, false, not, cond, List, [], ◌∷◌, ◌++◌, take, drop, length, count_by, reverse, ltb, ◌+◌, ◌-◌, ◌/◌, ◌%◌, ◌≤◌, ◌<◌, refl, sym, ap, ◌∙◌, arith}
use Rattle.std.proofs.lemmas.List.{append_assoc, reverse-append, length-append, length-reverse, drop_all, drop-append-le, append-nil}
use Rattle.std.proofs.lemmas.List.Sums.{sum_by_push, prefix_len-le-length}
use Rattle.std.proofs.lemmas.Bool.Decides.{nat_tests}
use lib.Utf8.{encode, next}
use Rattle.std.specs.Str.{encode_utf8_all}
use Rattle.std.specs.List.{after_last, prefix_len}
use Rattle.hv_tree.specs.Place.{is_line_feed, begins_character, column_of, column_after}

drop_front : {X : Type 0} (xs : List X) (x : X) (k : ℕ) → k ≤ length xs → drop (length (xs ++ x ∷ []) - (1 + k)) (xs ++ x ∷ []) ≡ drop (length xs - k) xs ++ x ∷ []
drop_front xs x k h =
    let e : length (xs ++ x ∷ []) - (1 + k) ≡ length xs - k = omega (arith, length-append xs (x ∷ [])) in
    rw e (drop-append-le (length xs - k) xs (x ∷ []) (omega arith))

after_last_hit : {X : Type 0} (p : X → Bool) (xs : List X) (x : X) → p x ≡ true → after_last p (xs ++ x ∷ []) ≡ []
after_last_hit p xs x e = rw (reverse-append xs (x ∷ []), e) (drop_all (length (xs ++ x ∷ []) - 0) (xs ++ x ∷ []) (omega arith))

after_last_miss : {X : Type 0} (p : X → Bool) (xs : List X) (x : X) → p x ≡ false → after_last p (xs ++ x ∷ []) ≡ after_last p xs ++ x ∷ []
after_last_miss p xs x e =
    let h : prefix_len (λ y. not (p y)) (reverse xs) ≤ length xs = omega (arith, prefix_len-le-length (λ y. not (p y)) (reverse xs), length-reverse xs) in
    rw (reverse-append xs (x ∷ []), e) (drop_front xs x (prefix_len (λ y. not (p y)) (reverse xs)) h)

-- ---- bytes

abbrev begun : List ℕ → ℕ
begun bs = count_by begins_character (after_last is_line_feed bs)

begun_feed : (bs : List ℕ) (b : ℕ) → is_line_feed b ≡ true → begun (bs ++ b ∷ []) ≡ 0
begun_feed bs b e = ap (count_by begins_character) (after_last_hit is_line_feed bs b e)

begun_push : (bs : List ℕ) (b : ℕ) → is_line_feed b ≡ false → begun (bs ++ b ∷ []) ≡ begun bs + cond (begins_character b) 1 0
begun_push bs b e = ap (count_by begins_character) (after_last_miss is_line_feed bs b e) ∙ sum_by_push (λ x. cond (begins_character x) 1 0) (after_last is_line_feed bs) b

begun_first : (bs : List ℕ) (b : ℕ) → is_line_feed b ≡ false → begins_character b ≡ true → begun (bs ++ b ∷ []) ≡ begun bs + 1
begun_first bs b e f = begun_push bs b e ∙ ap (λ (t : Bool). begun bs + cond t 1 0) f

next_is : (m : ℕ) → (is_line_feed (next m) ≡ false) × (begins_character (next m) ≡ false)
next_is m = let h : m % 64 < 64 = omega arith in (grind (arith, nat_tests), grind (arith, nat_tests))

begun_next : (bs : List ℕ) (m : ℕ) → begun (bs ++ next m ∷ []) ≡ begun bs
begun_next bs m = begun_push bs (next m) (next_is m).0 ∙ ap (λ (t : Bool). begun bs + cond t 1 0) (next_is m).1 ∙ omega arith

-- a byte, and those behind it
begun_split : (bs : List ℕ) (b : ℕ) (more : List ℕ) → begun (bs ++ b ∷ more) ≡ begun ((bs ++ b ∷ []) ++ more)
begun_split bs b more = ap begun (sym (append_assoc bs (b ∷ []) more))

high : (b : ℕ) → 192 ≤ b → (is_line_feed b ≡ false) × (begins_character b ≡ true)
high b h = (grind (arith, nat_tests), grind (arith, nat_tests))

begun_high : (bs : List ℕ) (b : ℕ) → 192 ≤ b → begun (bs ++ b ∷ []) ≡ begun bs + 1
begun_high bs b h = begun_first bs b (high b h).0 (high b h).1

low : (c : ℕ) → ltb c 128 ≡ true → begins_character c ≡ true
low c e = grind (arith, nat_tests, e)

begun_by : (x y z : Bool) (c : ℕ) (bs : List ℕ) → ltb c 128 ≡ x → is_line_feed c ≡ false →
    begun (bs ++ cond x (c ∷ []) (cond y ((192 + c / 64) ∷ next c ∷ []) (cond z ((224 + c / 4096) ∷ next (c / 64) ∷ next c ∷ []) ((240 + c / 262144) ∷ next (c / 4096) ∷ next (c / 64) ∷ next c ∷ [])))) ≡ begun bs + 1
begun_by true y z c bs e n = begun_first bs c n (low c e)
begun_by false true z c bs e n =
    begun_split bs (192 + c / 64) (next c ∷ []) ∙ begun_next (bs ++ (192 + c / 64) ∷ []) c ∙ begun_high bs (192 + c / 64) (omega arith)
begun_by false false true c bs e n =
    let a : List ℕ = bs ++ (224 + c / 4096) ∷ [] in
    begun_split bs (224 + c / 4096) (next (c / 64) ∷ next c ∷ []) ∙ begun_split a (next (c / 64)) (next c ∷ []) ∙
    begun_next (a ++ next (c / 64) ∷ []) c ∙ begun_next a (c / 64) ∙ begun_high bs (224 + c / 4096) (omega arith)
begun_by false false false c bs e n =
    let a : List ℕ = bs ++ (240 + c / 262144) ∷ [] in
    let b : List ℕ = a ++ next (c / 4096) ∷ [] in
    begun_split bs (240 + c / 262144) (next (c / 4096) ∷ next (c / 64) ∷ next c ∷ []) ∙ begun_split a (next (c / 4096)) (next (c / 64) ∷ next c ∷ []) ∙
    begun_split b (next (c / 64)) (next c ∷ []) ∙
    begun_next (b ++ next (c / 64) ∷ []) c ∙ begun_next b (c / 64) ∙ begun_next a (c / 4096) ∙ begun_high bs (240 + c / 262144) (omega arith)

begun_encode : (c : ℕ) (bs : List ℕ) → is_line_feed c ≡ false → begun (bs ++ encode c) ≡ begun bs + 1
unfolding encode
begun_encode c bs n = begun_by _ _ _ c bs refl n

feed_encode : (c : ℕ) → is_line_feed c ≡ true → encode c ≡ 10 ∷ []
unfolding encode
feed_encode c e = let h : c ≡ 10 = grind (arith, nat_tests, e) in rw h refl

-- ---- characters

abbrev Agree : List ℕ → List ℕ → Type 0
Agree bs cs = begun bs ≡ length (after_last is_line_feed cs)

agree_push : (t : Bool) (bs cs : List ℕ) (c : ℕ) → is_line_feed c ≡ t → Agree bs cs → Agree (bs ++ encode c) (cs ++ c ∷ [])
agree_push true bs cs c e h =
    ap (λ (t : List ℕ). begun (bs ++ t)) (feed_encode c e) ∙ begun_feed bs 10 refl ∙ sym (ap length (after_last_hit is_line_feed cs c e))
agree_push false bs cs c e h =
    begun_encode c bs e ∙ ap (λ (n : ℕ). n + 1) h ∙ sym (ap length (after_last_miss is_line_feed cs c e) ∙ length-append (after_last is_line_feed cs) (c ∷ []))

agree_all : (cs bs ds : List ℕ) → Agree bs ds → Agree (bs ++ encode_utf8_all cs) (ds ++ cs)
agree_all [] bs ds h = rw (append-nil bs, append-nil ds) h
agree_all (c ∷ cs) bs ds h =
    rw (← append_assoc bs (encode c) (encode_utf8_all cs), ← append_assoc ds (c ∷ []) cs) (agree_all cs (bs ++ encode c) (ds ++ c ∷ []) (agree_push (is_line_feed c) bs ds c refl h))

pub column_of_characters : (source : List ℕ) (start : ℕ) (cs : List ℕ) → encode_utf8_all cs ≡ take start source → column_of source start ≡ column_after cs
column_of_characters source start cs e = ap (λ (bs : List ℕ). 1 + begun bs) (sym e) ∙ ap (λ (n : ℕ). 1 + n) (agree_all cs [] [] refl)
