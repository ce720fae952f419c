-- The printed form of a program is read as the same program, places aside.
use Rattle.std.proofs.Common.{◌≡◌, ◌≤◌, length, None, sym, subst}
use Rattle.hv_tree.specs.declared.ast.Tree.{Tree}
use Rattle.hv_tree.specs.Printed.{Printed}
use Rattle.hv_token.specs.Lexes.{most_bytes, Lexes}
use Rattle.hv_print.specs.Pieces.{bytes_of, tokens_of, Pieces}
use Rattle.hv_print.specs.ReadBack.{IsWritten, IsShort, ReadsAs}
use Rattle.hv_print.proofs.PieceBytes.{pieces_bytes}
use Rattle.hv_print.proofs.ProperTrees.{proper}
use Rattle.hv_print.proofs.SpelledProgram.{of_program}
use Rattle.hv_print.proofs.LexedPieces.{lexed}
use Rattle.hv_print.proofs.ApartProgram.{apart, no_order_mark}

pub reads_back : (tree : Tree) → IsWritten tree → IsShort tree → ReadsAs (Printed tree) tree
reads_back tree w short =
    let p = proper tree w.tokens w.spells w.spelled in
    let r = of_program tree p in
    let bytes : bytes_of (Pieces tree) ≡ Printed tree = pieces_bytes tree in
    let m = no_order_mark tree in
    let l = lexed (Pieces tree) (apart tree p) m.0 m.1 (subst (λ bs. length bs ≤ most_bytes) (sym bytes) short) in
    record {
      tokens = tokens_of 0 (Pieces tree);
      again = r.tree;
      lexes = subst (λ bs. Lexes bs (tokens_of 0 (Pieces tree)) None) bytes l;
      spells = r.spelled;
      same = r.same;
    }
