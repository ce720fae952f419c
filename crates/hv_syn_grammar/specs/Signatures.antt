-- Names, types, parameters and results, read from lists of tokens.
use Rattle.std.specs.Prelude.{ℕ, zero, suc, ◌-◌, Bool, ◌||◌, List, [], ◌∷◌, Option, Some, None, codes}
use Rattle.hv_tree.specs.declared.token.Token.{Token}
use Rattle.hv_tree.specs.declared.types.Name.{Name}
use Rattle.hv_tree.specs.declared.types.Conv.{Conv}
use Rattle.hv_tree.specs.declared.types.Conv.TheVariants as conv
use Rattle.hv_tree.specs.declared.types.Ty.{Ty}
use Rattle.hv_tree.specs.declared.types.Ty.TheVariants as ty
use Rattle.hv_tree.specs.declared.ast.Param.{Param}
use Rattle.hv_tree.specs.Refusal.{is_mark}
use Rattle.hv_syn_grammar.specs.Parser.{Parser, Off, ◌>>=◌, done, choose}
use Rattle.hv_syn_grammar.specs.Lexemes.{is_word, is_keyword, after_mark, after_keyword, after_word, after_bracket, separated}

-- ---- names

unfoldable pub a_name : Parser Name
a_name = after_word (λ name. done name)

unfoldable pub names : Parser (List Name)
names = choose is_word (separated a_name) (done [])

-- ---- types

abbrev pub begins_conv : Token → Bool
begins_conv k = is_keyword (codes "let") k || (is_keyword (codes "inout") k || (is_keyword (codes "sink") k || is_keyword (codes "set") k))

abbrev pub begins_result : Token → Bool
begins_result k = is_keyword (codes "Int") k || (is_keyword (codes "Bool") k || (is_word k || (is_mark (codes "[") k || is_mark (codes "(") k)))

abbrev pub begins_type : Token → Bool
begins_type k = is_keyword (codes "fun") k || begins_result k

abbrev pub begins_conv_type : Token → Bool
begins_conv_type k = begins_conv k || begins_type k

abbrev pub one_conv : List ℕ → Conv → Parser Conv
one_conv spelling c = after_keyword spelling (λ at. done c)

unfoldable pub convention : Parser Conv
convention =
    choose (is_keyword (codes "let")) (one_conv (codes "let") conv.Let)
    (choose (is_keyword (codes "inout")) (one_conv (codes "inout") conv.Inout)
    (choose (is_keyword (codes "sink")) (one_conv (codes "sink") conv.Sink)
    (choose (is_keyword (codes "set")) (one_conv (codes "set") conv.Set) (done conv.Let))))

-- what stands right inside a bracket of a type
pub record InnerTypes : Type 0 where
  pub type : Parser Ty
  pub types : Parser (List (Conv × Ty))

module _ (d : ℕ) (i : InnerTypes) where
  abbrev pub int_type : Parser Ty
  int_type = after_keyword (codes "Int") (λ at. done (ty.Int at))

  abbrev pub bool_type : Parser Ty
  bool_type = after_keyword (codes "Bool") (λ at. done (ty.Bool at))

  abbrev pub named_type : Parser Ty
  named_type = after_word (λ name. done (ty.Named name))

  abbrev pub array_type : Parser Ty
  array_type = after_bracket d (codes "[") (λ left. i.type >>= (λ t. after_mark (codes "]") (λ right. done (ty.Array left t))))

  abbrev pub group_type : Parser Ty
  group_type = after_bracket d (codes "(") (λ left. i.type >>= (λ t. after_mark (codes ")") (λ right. done t)))

  unfoldable pub result_type : Parser Ty
  result_type =
      choose (is_keyword (codes "Int")) int_type
      (choose (is_keyword (codes "Bool")) bool_type
      (choose is_word named_type
      (choose (is_mark (codes "[")) array_type group_type)))

  abbrev pub arrow_result : Parser (Option Ty)
  arrow_result = after_mark (codes "->") (λ arrow. result_type >>= (λ t. done (Some t)))

  -- ('->' rtype)?
  unfoldable pub function_result : Parser (Option Ty)
  function_result = choose (is_mark (codes "->")) arrow_result (done None)

  unfoldable pub function_type : Parser Ty
  function_type =
      after_keyword (codes "fun") (λ fun. after_bracket d (codes "(") (λ left. i.types >>= (λ params. after_mark (codes ")") (λ right.
      function_result >>= (λ result. done (ty.Fun fun params result))))))

  unfoldable pub type : Parser Ty
  type = choose (is_keyword (codes "fun")) function_type result_type

  unfoldable pub conv_type : Parser (Conv × Ty)
  conv_type = convention >>= (λ c. type >>= (λ t. done (c, t)))

  unfoldable pub types : Parser (List (Conv × Ty))
  types = choose begins_conv_type (separated conv_type) (done [])

abbrev pub dummy : {A : Type 0} → Parser A
dummy ts = Off ts

abbrev pub inner_types : ℕ → InnerTypes
inner_types zero = record { type = dummy; types = dummy }
inner_types (suc d) = record { type = type d (inner_types d); types = types d (inner_types d) }

-- a type, where d more brackets may be open
unfoldable pub type_at : ℕ → Parser Ty
type_at d = type d (inner_types d)

-- ---- parameters and results

unfoldable pub param : ℕ → Parser Param
param d = after_word (λ name. after_mark (codes ":") (λ colon. convention >>= (λ c. type_at d >>= (λ t. done (record { name = name; conv = c; ty = t })))))

unfoldable pub params : ℕ → Parser (List Param)
params d = choose is_word (separated (param d)) (done [])

abbrev pub arrow_type : ℕ → Parser (Option Ty)
arrow_type d = after_mark (codes "->") (λ arrow. type_at d >>= (λ t. done (Some t)))

-- ('->' type)?
unfoldable pub returned : ℕ → Parser (Option Ty)
returned d = choose (is_mark (codes "->")) (arrow_type d) (done None)

-- '(' params ')'
unfoldable pub bracketed_params : ℕ → Parser (List Param)
bracketed_params d = after_bracket d (codes "(") (λ left. params (d - 1) >>= (λ ps. after_mark (codes ")") (λ right. done ps)))
