-- The tokens of `fun main() { }`, which stand at places of their own and spell it.
use Rattle.std.proofs.Common.{ℕ, [], ◌∷◌, None, codes, lit<, refl}
use Rattle.hv_tree.specs.declared.place.Place.{Place}
use Rattle.hv_tree.specs.declared.types.Name.{Name}
use Rattle.hv_tree.specs.declared.ast.Tree.{Tree}
use Rattle.hv_tree.specs.declared.ast.Decl.TheVariants as decl
use Rattle.hv_tree.specs.declared.ast.Block.{Block, roll-Block}
use Rattle.hv_tree.specs.Tokens.{Tokens, mark, keyword, word}
use Rattle.hv_tree.specs.Types.{no_params, no_return}
use Rattle.hv_tree.specs.Grammar.{more_decls, no_decls, fun_decl, is_block, none_stmts, Spells}
use Rattle.hv_tree.specs.Core.{core_tree}
use Rattle.hv_law_formed.specs.Formed.{IsFormed}
use Rattle.hv_law_formed.proofs.Comes.{rising_apart}
use Rattle.hv_law_formed.proofs.Spelled.{spelled_formed}

abbrev at : ℕ → Place
at n = record { start = n }

abbrev main : Name
main = record { text = codes "main"; place = at 4 }

abbrev block : Block
block = roll-Block (record { stmts = []; end = at 13 })

abbrev tree : Tree
tree = record { decls = decl.Fun (record { name = main; params = []; result = None; body = block }) ∷ [] }

abbrev braces : Tokens
braces = mark (codes "{") (at 11) ∷ (mark (codes "}") (at 13) ∷ [])

abbrev tokens : Tokens
tokens = keyword (codes "fun") (at 0) ∷ (word main ∷ (mark (codes "(") (at 8) ∷ (mark (codes ")") (at 9) ∷ braces)))

spelled : Spells tree tokens
spelled = record {
  decls = more_decls _ [] tokens [] (fun_decl (at 0) (at 8) (at 9) main [] None block [] [] braces (no_params refl refl) (no_return refl refl) (is_block (at 11) (at 13) [] [] (none_stmts refl refl) refl refl) refl refl) (no_decls refl refl) refl refl;
}

formed : IsFormed (core_tree tree)
formed = spelled_formed tree tokens spelled (rising_apart tokens (lit< tt, (lit< tt, (lit< tt, (lit< tt, (lit< tt, tt))))))
