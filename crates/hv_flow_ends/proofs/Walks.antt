-- The walk over statements, step by step.
use Rattle.std.proofs.Common.{◌≡◌, ℕ, ◌+◌, ◌<◌, Bool, false, List, [], ◌∷◌, ◌++◌, length, map, drop, get_or, Option, refl, sym, ap, ◌∙◌, append_assoc, append-nil}
use Rattle.hv_tree.specs.declared.ast.Block.{Block, out-Block}
use Rattle.hv_tree.specs.declared.ast.Branch.{Branch, out-Branch}
use Rattle.hv_tree.specs.declared.ast.Stmt.{Stmt}
use Rattle.hv_tree.specs.Core.{CoreStmts, core_stmts, core_block, stmts_in}
use Rattle.hv_tree.proofs.CoreLemmas as lemmas
use Rattle.hv_decls.specs.Locals.{Local, CoreBody, entry_locals}
use Rattle.hv_rules.specs.Events.{Belongs, ToEnd, kind_from, is_written_back, has_some}
use Rattle.std.proofs.lemmas.List.{map-append}
use Rattle.hv_lemmas.proofs.Lists.{first_left, extended}
use Rattle.hv_flow_ends.specs.declared.span.Span.{Span}
use Rattle.hv_flow_ends.specs.declared.span.End.{End}
use Rattle.hv_flow_ends.specs.declared.walk.Opened.{Opened}
use Rattle.hv_flow_ends.specs.Ends.{belongs_by, numbers_in}
use Rattle.hv_flow_ends.specs.Walked as spec
use Rattle.hv_flow_ends.proofs.Spans.{numbers_both}

-- ---- what blocks declare

pub handles_next : (n : ℕ) (stmts : List Stmt) (i : ℕ) (s : Stmt) → i < length stmts → s ≡ get_or stmts i s →
    spec.own_handles n (core_stmts (drop i stmts)) ≡ spec.handle_more n s ++ spec.own_handles (n + spec.stmt_locals s) (core_stmts (drop (i + 1) stmts))
handles_next n stmts i s within is = ap (λ l. spec.own_handles n (core_stmts l)) (first_left stmts i s within is)

pub backs_next : (n : ℕ) (stmts : List Stmt) (i : ℕ) (s : Stmt) → i < length stmts → s ≡ get_or stmts i s →
    spec.own_back n (core_stmts (drop i stmts)) ≡ spec.back_more n s ++ spec.own_back (n + spec.stmt_locals s) (core_stmts (drop (i + 1) stmts))
backs_next n stmts i s within is = ap (λ l. spec.own_back n (core_stmts l)) (first_left stmts i s within is)

-- ---- what blocks around add

pub more_numbers : (was now more : List Span) → now ≡ was ++ more → numbers_in now ≡ numbers_in was ++ numbers_in more
more_numbers was now more e = ap numbers_in e ∙ numbers_both was more

pub back_left : (around : List Opened) (i : ℕ) (o : Opened) → i < length around → o ≡ get_or around i o → spec.backs_in (drop i around) ≡ numbers_in o.back ++ spec.backs_in (drop (i + 1) around)
back_left around i o within is = ap spec.backs_in (first_left around i o within is)

pub handles_left : (around : List Opened) (i : ℕ) (o : Opened) → i < length around → o ≡ get_or around i o → spec.handles_in (drop i around) ≡ numbers_in o.handles ++ spec.handles_in (drop (i + 1) around)
handles_left around i o within is = ap spec.handles_in (first_left around i o within is)

pub backs_both : (xs ys : List Opened) → spec.backs_in (xs ++ ys) ≡ spec.backs_in xs ++ spec.backs_in ys
backs_both [] ys = refl
backs_both (o ∷ xs) ys = ap (λ l. numbers_in o.back ++ l) (backs_both xs ys) ∙ sym (append_assoc (numbers_in o.back) (spec.backs_in xs) (spec.backs_in ys))

pub handles_both : (xs ys : List Opened) → spec.handles_in (xs ++ ys) ≡ spec.handles_in xs ++ spec.handles_in ys
handles_both [] ys = refl
handles_both (o ∷ xs) ys = ap (λ l. numbers_in o.handles ++ l) (handles_both xs ys) ∙ sym (append_assoc (numbers_in o.handles) (spec.handles_in xs) (spec.handles_in ys))

-- ---- ends, by what is around

abbrev at : ℕ → List ℕ → List ℕ → spec.Standing
at n b h = record { next = n; back = b; handles = h }

-- a block in which nothing is written back yet
pub block_entered : (n : ℕ) (around : List Opened) (o : Opened) (b : Block) → o.back ≡ [] → numbers_in o.handles ≡ spec.own_handles n (core_stmts (out-Block b).stmts) →
    spec.ends_of_block n around b
    ≡ spec.ends_of_stmts n (around ++ o ∷ []) (out-Block b).stmts ++ ToEnd (spec.own_back n (core_stmts (out-Block b).stmts)) (spec.own_handles n (core_stmts (out-Block b).stmts)) false ∷ []
block_entered n around o b e f =
    let stmts = core_stmts (out-Block b).stmts in
    let handles = spec.own_handles n stmts in
    let backs : spec.backs_in (around ++ o ∷ []) ≡ spec.backs_in around =
    backs_both around (o ∷ []) ∙ ap (λ l. spec.backs_in around ++ (numbers_in l ++ [])) e ∙ append-nil (spec.backs_in around) in
    let all : spec.handles_in (around ++ o ∷ []) ≡ spec.handles_in around ++ handles =
    handles_both around (o ∷ []) ∙ ap (λ l. spec.handles_in around ++ l) (append-nil (numbers_in o.handles) ∙ f) in
    ap (spec.block_ends (spec.standing n around)) (lemmas.opened_block b)
    ∙ sym (ap (λ l. spec.stmts_ends (at n l (spec.handles_in (around ++ o ∷ []))) stmts ++ ToEnd (spec.own_back n stmts) handles false ∷ []) backs
    ∙ ap (λ l. spec.stmts_ends (at n (spec.backs_in around) l) stmts ++ ToEnd (spec.own_back n stmts) handles false ∷ []) all)

-- the next statement of a block
pub stmts_next : (n : ℕ) (around : List Opened) (o p : Opened) (stmts : List Stmt) (i : ℕ) (s : Stmt) → i < length stmts → s ≡ get_or stmts i s →
    numbers_in p.back ≡ numbers_in o.back ++ spec.back_more n s → p.handles ≡ o.handles →
    spec.ends_of_stmts n (around ++ o ∷ []) (drop i stmts) ≡ spec.ends_of_stmt n (around ++ o ∷ []) s ++ spec.ends_of_stmts (n + spec.stmt_locals s) (around ++ p ∷ []) (drop (i + 1) stmts)
stmts_next n around o p stmts i s within is e f =
    let rest = core_stmts (drop (i + 1) stmts) in
    let m = n + spec.stmt_locals s in
    let backs : spec.backs_in (around ++ o ∷ []) ++ spec.back_more n s ≡ spec.backs_in (around ++ p ∷ []) =
    ap (λ l. l ++ spec.back_more n s) (backs_both around (o ∷ []) ∙ ap (λ l. spec.backs_in around ++ l) (append-nil (numbers_in o.back)))
    ∙ append_assoc (spec.backs_in around) (numbers_in o.back) (spec.back_more n s)
    ∙ sym (backs_both around (p ∷ []) ∙ ap (λ l. spec.backs_in around ++ l) (append-nil (numbers_in p.back) ∙ e)) in
    let all : spec.handles_in (around ++ o ∷ []) ≡ spec.handles_in (around ++ p ∷ []) =
    handles_both around (o ∷ []) ∙ sym (handles_both around (p ∷ []) ∙ ap (λ l. spec.handles_in around ++ (numbers_in l ++ [])) f) in
    ap (λ l. spec.ends_of_stmts n (around ++ o ∷ []) l) (first_left stmts i s within is)
    ∙ ap (λ l. spec.ends_of_stmt n (around ++ o ∷ []) s ++ spec.stmts_ends (at m l (spec.handles_in (around ++ o ∷ []))) rest) backs
    ∙ ap (λ l. spec.ends_of_stmt n (around ++ o ∷ []) s ++ spec.stmts_ends (at m (spec.backs_in (around ++ p ∷ [])) l) rest) all

pub tests_next : (n : ℕ) (around : List Opened) (branches : List Branch) (i : ℕ) (b : Branch) → i < length branches → b ≡ get_or branches i b →
    spec.ends_of_tests n around (drop i branches) ≡ spec.ends_of_block n around (out-Branch b).body ++ spec.ends_of_tests (n + spec.block_locals (out-Branch b).body) around (drop (i + 1) branches)
tests_next n around branches i b within is = ap (spec.ends_of_tests n around) (first_left branches i b within is)

-- ---- turns of the walk

same_last : {A : Type 0} (xs ys : List A) (x y : A) → xs ++ x ∷ [] ≡ ys ++ y ∷ [] → (xs ≡ ys) × (x ≡ y)
same_last [] [] x y e = (refl, cc)
same_last [] (b ∷ []) x y e = cc
same_last [] (b ∷ (d ∷ ys)) x y e = cc
same_last (a ∷ []) [] x y e = cc
same_last (a ∷ (d ∷ xs)) [] x y e = cc
same_last (a ∷ xs) (b ∷ ys) x y e = by (same_last xs ys x y (cc)) (cc)
  where
    by : (xs ≡ ys) × (x ≡ y) → a ≡ b → ((a ∷ xs) ≡ (b ∷ ys)) × (x ≡ y)
    by h g = (ap (λ z. z ∷ xs) g ∙ ap (λ l. b ∷ l) h.0, h.1)

pub stmts_turn : (n m : ℕ) (around left : List Opened) (opened o p : Opened) (stmts : List Stmt) (i : ℕ) (s : Stmt) (was now whole : List Belongs) (back : List ℕ) → i < length stmts → s ≡ get_or stmts i s →
    around ++ opened ∷ [] ≡ left ++ o ∷ [] → numbers_in p.back ≡ numbers_in o.back ++ spec.back_more n s → p.handles ≡ o.handles → m ≡ n + spec.stmt_locals s →
    now ≡ was ++ spec.ends_of_stmt n (around ++ opened ∷ []) s → was ++ spec.ends_of_stmts n (around ++ opened ∷ []) (drop i stmts) ≡ whole →
    numbers_in opened.back ++ spec.own_back n (core_stmts (drop i stmts)) ≡ back →
    (now ++ spec.ends_of_stmts m (left ++ p ∷ []) (drop (i + 1) stmts) ≡ whole) × (left ≡ around) × (numbers_in p.back ++ spec.own_back m (core_stmts (drop (i + 1) stmts)) ≡ back) × (p.handles ≡ opened.handles)
stmts_turn n m around left opened o p stmts i s was now whole back within is e f g h k before more =
    let same = same_last around left opened o e in
    let f' : numbers_in p.back ≡ numbers_in opened.back ++ spec.back_more n s = f ∙ ap (λ q. numbers_in q.back ++ spec.back_more n s) (sym same.1) in
    let g' : p.handles ≡ opened.handles = g ∙ ap (λ q. q.handles) (sym same.1) in (
      ap (λ j. now ++ spec.ends_of_stmts j (left ++ p ∷ []) (drop (i + 1) stmts)) h ∙ ap (λ l. now ++ spec.ends_of_stmts (n + spec.stmt_locals s) (l ++ p ∷ []) (drop (i + 1) stmts)) (sym same.0)
          ∙ extended was now _ _ _ _ k (stmts_next n around opened p stmts i s within is f' g') before,
      sym same.0,
      ap (λ j. numbers_in p.back ++ spec.own_back j (core_stmts (drop (i + 1) stmts))) h ∙ extended (numbers_in opened.back) (numbers_in p.back) _ _ _ _ f' (backs_next n stmts i s within is) more,
      g',
    )

pub block_walked : (n : ℕ) (around : List Opened) (o : Opened) (b : Block) (was : List Belongs) (then now : List End) (last : End) →
    o.back ≡ [] → numbers_in o.handles ≡ spec.own_handles n (core_stmts (out-Block b).stmts) → map belongs_by then ≡ was ++ spec.ends_of_stmts n (around ++ o ∷ []) (out-Block b).stmts →
    numbers_in last.back ≡ numbers_in o.back ++ spec.own_back n (core_stmts (out-Block b).stmts) → last.handles ≡ o.handles → last.missing ≡ false → now ≡ then ++ last ∷ [] →
    map belongs_by now ≡ was ++ spec.ends_of_block n around b
block_walked n around o b was then now last e f g h k l m =
    let stmts = core_stmts (out-Block b).stmts in
    let ended : belongs_by last ≡ ToEnd (spec.own_back n stmts) (spec.own_handles n stmts) false =
    ap (λ z. ToEnd z (numbers_in last.handles) last.missing) (h ∙ ap (λ z. numbers_in z ++ spec.own_back n stmts) e)
    ∙ ap (λ z. ToEnd (spec.own_back n stmts) z last.missing) (ap numbers_in k ∙ f) ∙ ap (λ z. ToEnd (spec.own_back n stmts) (spec.own_handles n stmts) z) l in
    ap (map belongs_by) m ∙ map-append belongs_by then (last ∷ []) ∙ ap (λ z. map belongs_by then ++ z ∷ []) ended ∙ ap (λ z. z ++ ToEnd (spec.own_back n stmts) (spec.own_handles n stmts) false ∷ []) g
    ∙ append_assoc was (spec.ends_of_stmts n (around ++ o ∷ []) (out-Block b).stmts) _ ∙ ap (λ z. was ++ z) (sym (block_entered n around o b e f))

pub tests_turn : (n m : ℕ) (around left : List Opened) (branches : List Branch) (i : ℕ) (b : Branch) (was now whole : List Belongs) → i < length branches → b ≡ get_or branches i b →
    left ≡ around → m ≡ n + spec.block_locals (out-Branch b).body → now ≡ was ++ spec.ends_of_block n around (out-Branch b).body →
    was ++ spec.ends_of_tests n around (drop i branches) ≡ whole → now ++ spec.ends_of_tests m left (drop (i + 1) branches) ≡ whole
tests_turn n m around left branches i b was now whole within is e f g before =
    ap (λ j. now ++ spec.ends_of_tests j left (drop (i + 1) branches)) f ∙ ap (λ l. now ++ spec.ends_of_tests (n + spec.block_locals (out-Branch b).body) l (drop (i + 1) branches)) e
    ∙ extended was now _ _ _ _ g (tests_next n around branches i b within is) before

pub if_walked : (n m k : ℕ) (around left : List Opened) (branches : List Branch) (otherwise : Option Block) (was then now all : List Belongs) →
    all ≡ spec.ends_of_tests n around branches ++ spec.ends_of_else (n + spec.tests_locals branches) around otherwise → then ≡ was ++ spec.ends_of_tests n around branches → left ≡ around → k ≡ spec.tests_locals branches → m ≡ n + k →
    now ≡ then ++ spec.ends_of_else m left otherwise → now ≡ was ++ all
if_walked n m k around left branches otherwise was then now all e f g h l d =
    d ∙ ap (λ j. then ++ spec.ends_of_else j left otherwise) (l ∙ ap (λ j. n + j) h) ∙ ap (λ j. then ++ spec.ends_of_else (n + spec.tests_locals branches) j otherwise) g
    ∙ ap (λ j. j ++ spec.ends_of_else (n + spec.tests_locals branches) around otherwise) f ∙ append_assoc was (spec.ends_of_tests n around branches) (spec.ends_of_else (n + spec.tests_locals branches) around otherwise) ∙ ap (λ j. was ++ j) (sym e)

-- the same of the lists as code reads them
pub block_read : (n : ℕ) (around : List Opened) (o : Opened) (b : Block) (stmts : List Stmt) (was : List Belongs) (then now : List End) (last : End) → stmts ≡ (out-Block b).stmts →
    o.back ≡ [] → numbers_in o.handles ≡ spec.own_handles n (core_stmts stmts) → map belongs_by then ≡ was ++ spec.ends_of_stmts n (around ++ o ∷ []) stmts →
    numbers_in last.back ≡ numbers_in o.back ++ spec.own_back n (core_stmts stmts) → last.handles ≡ o.handles → last.missing ≡ false → now ≡ then ++ last ∷ [] →
    map belongs_by now ≡ was ++ spec.ends_of_block n around b
block_read n around o b stmts was then now last q e f g h k l m =
    block_walked n around o b was then now last e (f ∙ ap (λ z. spec.own_handles n (core_stmts z)) q) (g ∙ ap (λ z. was ++ spec.ends_of_stmts n (around ++ o ∷ []) z) q)
    (h ∙ ap (λ z. numbers_in o.back ++ spec.own_back n (core_stmts z)) q) k l m

pub if_read : (n m k : ℕ) (around left : List Opened) (branches listed : List Branch) (otherwise : Option Block) (was then now all : List Belongs) → listed ≡ branches →
    all ≡ spec.ends_of_tests n around branches ++ spec.ends_of_else (n + spec.tests_locals branches) around otherwise → then ≡ was ++ spec.ends_of_tests n around listed → left ≡ around → k ≡ spec.tests_locals listed → m ≡ n + k →
    now ≡ then ++ spec.ends_of_else m left otherwise → now ≡ was ++ all
if_read n m k around left branches listed otherwise was then now all q e f g h l d =
    if_walked n m k around left branches otherwise was then now all e (f ∙ ap (λ z. was ++ spec.ends_of_tests n around z) q) g (h ∙ ap spec.tests_locals q) l d

-- ---- bodies

abbrev ended : ℕ → List ℕ → List ℕ → CoreStmts → Bool → List Belongs
ended n back handles stmts missing = spec.stmts_ends (at n back handles) stmts ++ ToEnd (back ++ spec.own_back n stmts) handles missing ∷ []

pub body_read : (body : CoreBody) (b : Block) (stmts : List Stmt) (known : List Local) (first : ℕ) (around : List Opened) (o : Opened) (was then now : List End) (last : End) →
    body.block ≡ core_block b → stmts ≡ (out-Block b).stmts → known ≡ entry_locals body → first ≡ length known → around ≡ [] → was ≡ [] → numbers_in o.back ≡ kind_from is_written_back 0 known →
    numbers_in o.handles ≡ spec.own_handles first (core_stmts stmts) → map belongs_by then ≡ map belongs_by was ++ spec.ends_of_stmts first (around ++ o ∷ []) stmts →
    numbers_in last.back ≡ numbers_in o.back ++ spec.own_back first (core_stmts stmts) → last.handles ≡ o.handles → last.missing ≡ has_some body.result → now ≡ then ++ last ∷ [] →
    map belongs_by now ≡ spec.body_ends body
body_read body b stmts known first around o was then now last e q k f a w p h t l m r z =
    let inside : core_stmts stmts ≡ stmts_in body.block = ap core_stmts q ∙ sym (ap stmts_in (e ∙ lemmas.opened_block b)) in
    let n : first ≡ spec.first_own body = f ∙ ap length k in
    let walked : map belongs_by then ≡ spec.stmts_ends (at first (numbers_in o.back) (numbers_in o.handles)) (core_stmts stmts) =
    t ∙ ap (λ x. map belongs_by x ++ spec.ends_of_stmts first (around ++ o ∷ []) stmts) w ∙ ap (λ x. spec.ends_of_stmts first (x ++ o ∷ []) stmts) a
    ∙ ap (λ x. spec.stmts_ends (at first x (numbers_in o.handles ++ [])) (core_stmts stmts)) (append-nil (numbers_in o.back)) ∙ ap (λ x. spec.stmts_ends (at first (numbers_in o.back) x) (core_stmts stmts)) (append-nil (numbers_in o.handles)) in
    let closed : belongs_by last ≡ ToEnd (numbers_in o.back ++ spec.own_back first (core_stmts stmts)) (numbers_in o.handles) (has_some body.result) =
    ap (λ x. ToEnd x (numbers_in last.handles) last.missing) l ∙ ap (λ x. ToEnd (numbers_in o.back ++ spec.own_back first (core_stmts stmts)) x last.missing) (ap numbers_in m)
    ∙ ap (λ x. ToEnd (numbers_in o.back ++ spec.own_back first (core_stmts stmts)) (numbers_in o.handles) x) r in
    ap (map belongs_by) z ∙ map-append belongs_by then (last ∷ []) ∙ ap (λ x. map belongs_by then ++ x ∷ []) closed
    ∙ ap (λ x. x ++ ToEnd (numbers_in o.back ++ spec.own_back first (core_stmts stmts)) (numbers_in o.handles) (has_some body.result) ∷ []) walked
    ∙ ap (λ x. ended first x (numbers_in o.handles) (core_stmts stmts) (has_some body.result)) (p ∙ ap (λ x. kind_from is_written_back 0 x) k) ∙ ap (λ x. ended first (spec.entry_back body) x (core_stmts stmts) (has_some body.result)) h
    ∙ ap (λ x. ended x (spec.entry_back body) (spec.own_handles x (core_stmts stmts)) (core_stmts stmts) (has_some body.result)) n
    ∙ ap (λ x. ended (spec.first_own body) (spec.entry_back body) (spec.own_handles (spec.first_own body) x) x (has_some body.result)) inside
