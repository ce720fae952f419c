-- A list of statements, beside the loop that reads it.
use Rattle.std.proofs.Common.{◌≡◌, ℕ, ◌+◌, ◌-◌, ◌<◌, Bool, true, false, List, [], ◌∷◌, ◌++◌, length, map, refl, sym, ◌∙◌, ap, append_assoc, append-nil}
use Rattle.std.specs.Prelude.{not, codes, Ok}
use Rattle.hv_tree.specs.declared.ast.Stmt.{Stmt}
use Rattle.hv_tree.specs.Refusal.{is_mark}
use Rattle.hv_tree.specs.Tokens.{Tokens}
use Rattle.hv_syn_grammar.specs.Parser.{Read, Got, Off, Deep, Parser, read_then, done, passes, until_within}
use Rattle.hv_syn_grammar.specs.Expressions.{Inner}
use Rattle.hv_syn_grammar.specs.Statements.{Item, begins_item, not_closing, item, items, stmts, other_stmt, semicolon}
use Rattle.hv_parse.specs.Parts.{Adds, other_item}
use Rattle.hv_parse.proofs.Untils.{until_begins, until_none, until_end, until_more, until_last, until_off, until_deep, given}

abbrev pub with_items : List Stmt → List Item → List Stmt
with_items found more = found ++ map (λ x. x.0) more

-- what is left to read
abbrev pub items_left : ℕ → Parser Item → Tokens → List Stmt → Read (List Stmt)
items_left n p ts found = read_then (until_within n begins_item (λ x. x.1) p ts) (λ more. done (with_items found more))

pub items_begin : (d : ℕ) (i : Inner) (ts : Tokens) → stmts d i ts ≡ items_left (length ts - 0) (item d i) ts []
unfolding stmts items
items_begin d i ts = until_begins begins_item (λ x. x.1) (item d i) (with_items []) ts

pub items_none : (n : ℕ) (p : Parser Item) (ts : Tokens) (found : List Stmt) → passes begins_item ts ≡ false → items_left n p ts found ≡ Got found ts
items_none n p ts found e = until_none begins_item (λ x. x.1) p n (with_items found) ts e ∙ ap (λ l. Got l ts) (append-nil found)

pub items_end : (n : ℕ) (p : Parser Item) (ts : Tokens) (found : List Stmt) → n ≡ 0 → items_left n p ts found ≡ Got found ts
items_end n p ts found e = until_end begins_item (λ x. x.1) p n (with_items found) ts e ∙ ap (λ l. Got l ts) (append-nil found)

more_by : (n at : ℕ) (p : Parser Item) (ts rest : Tokens) (found : List Stmt) (x : Stmt) → at < n → passes begins_item ts ≡ true → p ts ≡ Got (x, false) rest → items_left (n - at) p ts found ≡ items_left (n - (at + 1)) p rest (found ++ x ∷ [])
more_by n at p ts rest found x below e g =
    until_more begins_item (λ x. x.1) p n at (with_items found) ts rest (x, false) below e g refl
    ∙ given (λ more. with_items found ((x, false) ∷ more)) (with_items (found ++ x ∷ [])) (until_within (n - (at + 1)) begins_item (λ x. x.1) p rest) (λ more. sym (append_assoc found (x ∷ []) (map (λ x. x.0) more)))

pub items_more : (n at : ℕ) (p : Parser Item) (ts rest : Tokens) (found new : List Stmt) (last : Bool) → at < n → passes begins_item ts ≡ true → Adds (p ts) found (Ok last) rest new → last ≡ false → items_left (n - at) p ts found ≡ items_left (n - (at + 1)) p rest new
items_more n at p ts rest found new true below e (x, g, h) f = absurd (cc)
items_more n at p ts rest found new false below e (x, g, h) f = more_by n at p ts rest found x below e g ∙ ap (items_left (n - (at + 1)) p rest) (sym h)

pub items_last : (n at : ℕ) (p : Parser Item) (ts rest : Tokens) (found new : List Stmt) (last : Bool) → at < n → passes begins_item ts ≡ true → Adds (p ts) found (Ok last) rest new → last ≡ true → items_left (n - at) p ts found ≡ Got new rest
items_last n at p ts rest found new false below e (x, g, h) f = absurd (cc)
items_last n at p ts rest found new true below e (x, g, h) f = until_last begins_item (λ x. x.1) p n at (with_items found) ts rest (x, true) below e g refl ∙ ap (λ l. Got l rest) (sym h)

pub items_off : (n at : ℕ) (p : Parser Item) (ts rest : Tokens) (found : List Stmt) → at < n → passes begins_item ts ≡ true → p ts ≡ Off rest → items_left (n - at) p ts found ≡ Off rest
items_off n at p ts rest found below e g = until_off begins_item (λ x. x.1) p n at (with_items found) ts rest below e g

pub items_deep : (n at : ℕ) (p : Parser Item) (ts rest : Tokens) (found : List Stmt) → at < n → passes begins_item ts ≡ true → p ts ≡ Deep rest → items_left (n - at) p ts found ≡ Deep rest
items_deep n at p ts rest found below e g = until_deep begins_item (λ x. x.1) p n at (with_items found) ts rest below e g

pub goes_on_end : (ts : Tokens) → length ts ≡ 0 → passes not_closing ts ≡ false
goes_on_end [] e = refl
goes_on_end (k ∷ ts) e = absurd (cc)

pub goes_on_by : (ts : Tokens) → (length ts ≡ 0 → ⊥) → passes not_closing ts ≡ not (passes (is_mark (codes "}")) ts)
goes_on_by [] e = absurd (e refl)
goes_on_by (k ∷ ts) e = refl

pub added : (d : ℕ) (i : Inner) (ts mid rest : Tokens) (x : Stmt) (found new : List Stmt) → other_stmt d i ts ≡ Got x mid → semicolon mid ≡ Got tt rest → new ≡ found ++ x ∷ [] → Adds (other_item d i ts) found (Ok false) rest new
added d i ts mid rest x found new e f h =
    (x, ap (λ q. read_then q (λ x ts. read_then (semicolon ts) (λ u. done (x, false)))) e ∙ ap (λ q. read_then q (λ u. done (x, false))) f, h)

pub added_last : (read : Read Item) (rest : Tokens) (x : Item) (found new : List Stmt) → read ≡ Got x rest → new ≡ found ++ x.0 ∷ [] → Adds read found (Ok x.1) rest new
added_last read rest (x, last) found new e h = (x, e, h)
