-- Parts with commas between, where the first is already read, and tests of the next token.
use Rattle.std.specs.Prelude.{List, ◌∷◌, Bool, ◌||◌, codes}
use Rattle.hv_tree.specs.declared.token.Token.{Token}
use Rattle.hv_tree.specs.Refusal.{is_mark}
use Rattle.hv_syn_grammar.specs.Parser.{Parser, ◌>>=◌, done}
use Rattle.hv_syn_grammar.specs.Lexemes.{is_word, is_number, is_keyword, more_parts}

unfoldable pub parts_after : {A : Type 0} → A → Parser A → Parser (List A)
parts_after x p = more_parts p >>= (λ xs. done (x ∷ xs))

-- an operand that begins with a keyword
abbrev pub begins_keyed : Token → Bool
begins_keyed k = is_keyword (codes "true") k || (is_keyword (codes "false") k || (is_keyword (codes "await") k || (is_keyword (codes "filled") k || (is_keyword (codes "count") k || is_keyword (codes "fun") k))))

-- any other argument
abbrev pub begins_unkeyed : Token → Bool
begins_unkeyed k = is_mark (codes "&") k || (is_mark (codes "-") k || (is_mark (codes "!") k || (is_number k || (is_word k || (is_mark (codes "(") k || is_mark (codes "[") k)))))
