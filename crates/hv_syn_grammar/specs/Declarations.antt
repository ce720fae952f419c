-- Declarations and programs, read from lists of tokens, and the knot: what stands right inside a bracket.
use Rattle.std.specs.Prelude.{ℕ, zero, suc, ◌-◌, Bool, ◌||◌, List, [], ◌∷◌, codes}
use Rattle.hv_tree.specs.declared.token.Token.{Token}
use Rattle.hv_tree.specs.declared.ast.Expr.{Expr}
use Rattle.hv_tree.specs.declared.ast.PlaceExpr.{PlaceExpr}
use Rattle.hv_tree.specs.declared.ast.Stmt.{Stmt}
use Rattle.hv_tree.specs.declared.ast.Field.{Field}
use Rattle.hv_tree.specs.declared.ast.Decl.{Decl}
use Rattle.hv_tree.specs.declared.ast.Decl.TheVariants as decl
use Rattle.hv_tree.specs.declared.ast.Tree.{Tree}
use Rattle.hv_tree.specs.Refusal.{is_mark, most_open}
use Rattle.hv_syn_grammar.specs.Parser.{Parser, Read, Got, Off, ◌>>=◌, done, choose, many}
use Rattle.hv_syn_grammar.specs.Lexemes.{is_keyword, after_mark, after_keyword, after_word, after_bracket}
use Rattle.hv_syn_grammar.specs.Signatures.{type_at, bracketed_params, returned, dummy}
use Rattle.hv_syn_grammar.specs.Expressions.{Inner, place, block, disjunction}
use Rattle.hv_syn_grammar.specs.Statements.{semicolon, stmts}

-- ---- with d brackets that may still be opened

-- what stands right inside a bracket, where d more might be open before it
abbrev pub inner : ℕ → Inner
inner zero = record { expr = dummy; place = dummy; stmts = dummy }
inner (suc d) = record { expr = disjunction d (inner d); place = place d (inner d); stmts = stmts d (inner d) }

unfoldable pub expr_at_room : ℕ → Parser Expr
expr_at_room d = disjunction d (inner d)

unfoldable pub place_at_room : ℕ → Parser PlaceExpr
place_at_room d = place d (inner d)

unfoldable pub stmts_at_room : ℕ → Parser (List Stmt)
stmts_at_room d = stmts d (inner d)

-- ---- declarations

-- 'var' Word ':' type ';'?
unfoldable pub field : ℕ → Parser Field
field d = after_keyword (codes "var") (λ var. after_word (λ name. after_mark (codes ":") (λ colon. type_at d >>= (λ t. semicolon >>= (λ u. done (record { name = name; ty = t }))))))

unfoldable pub fields : ℕ → Parser (List Field)
fields d = many (is_keyword (codes "var")) (field d)

unfoldable pub struct_decl : ℕ → Parser Decl
struct_decl d =
    after_keyword (codes "struct") (λ at. after_word (λ name. after_bracket d (codes "{") (λ left. fields (d - 1) >>= (λ fs. after_mark (codes "}") (λ right.
    done (decl.Struct (record { name = name; fields = fs })))))))

unfoldable pub fun_decl : ℕ → Parser Decl
fun_decl d =
    after_keyword (codes "fun") (λ at. after_word (λ name. bracketed_params d >>= (λ ps. returned d >>= (λ result. block d (inner d) >>= (λ body.
    done (decl.Fun (record { name = name; params = ps; result = result; body = body })))))))

abbrev pub begins_decl : Token → Bool
begins_decl k = is_keyword (codes "struct") k || is_keyword (codes "fun") k

unfoldable pub one_decl : ℕ → Parser Decl
one_decl d = choose (is_keyword (codes "struct")) (struct_decl d) (fun_decl d)

unfoldable pub decls : ℕ → Parser (List Decl)
decls d = many begins_decl (one_decl d)

-- ---- a whole list of tokens

abbrev pub end_after : {A : Type 0} → A → Parser A
end_after a [] = Got a []
end_after a (k ∷ ts) = Off (k ∷ ts)

unfoldable pub program : ℕ → Parser Tree
program d = decls d >>= (λ ds. end_after (record { decls = ds }))
