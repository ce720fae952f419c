-- Tests of the next token.
use Rattle.std.proofs.Common.{◌≡◌, Bool, true, false, [], ◌∷◌, refl}
use Rattle.std.specs.Prelude.{◌||◌, codes}
use Rattle.hv_tree.specs.Tokens.{Tokens}
use Rattle.hv_tree.specs.Refusal.{is_mark}
use Rattle.hv_syn_grammar.specs.Parser.{passes}
use Rattle.hv_syn_grammar.specs.Lexemes.{is_number, is_word}
use Rattle.hv_syn_grammar.specs.Expressions as rule
use Rattle.hv_syn_grammar.specs.Signatures as sig
use Rattle.hv_syn_terms.specs.Parts.{begins_keyed, begins_unkeyed}

pub begins_conv_type : (ts : Tokens) → passes sig.begins_conv_type ts ≡ passes sig.begins_conv ts || passes sig.begins_type ts
begins_conv_type [] = refl
begins_conv_type (k ∷ ts) = refl

or_each : (a b c d e f g h : Bool) → a || (b || (c || (d || (e || (f || (g || h)))))) ≡ (a || (b || (c || (d || (e || (f || g)))))) || h
or_each true b c d e f g h = refl
or_each false true c d e f g h = refl
or_each false false true d e f g h = refl
or_each false false false true e f g h = refl
or_each false false false false true f g h = refl
or_each false false false false false true g h = refl
or_each false false false false false false g h = refl

pub begins_arg : (ts : Tokens) → passes rule.begins_arg ts ≡ passes begins_unkeyed ts || passes begins_keyed ts
begins_arg [] = refl
begins_arg (k ∷ ts) =
    or_each (is_mark (codes "&") k) (is_mark (codes "-") k) (is_mark (codes "!") k) (is_number k) (is_word k) (is_mark (codes "(") k) (is_mark (codes "[") k) (begins_keyed k)
