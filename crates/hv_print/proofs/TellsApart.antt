-- Programs with the same printed form are the same, places aside.
use Rattle.std.proofs.Common.{◌≡◌, ◌≤◌, length, None, sym, ◌∙◌, ap, subst}
use Rattle.hv_tree.specs.declared.ast.Tree.{Tree}
use Rattle.hv_tree.specs.Grammar.{Spells}
use Rattle.hv_tree.specs.Printed.{Printed}
use Rattle.hv_token.specs.Lexes.{most_bytes, Lexes}
use Rattle.hv_token.proofs.Only.{only_one}
use Rattle.hv_print.specs.Aside.{Aside}
use Rattle.hv_print.specs.ReadBack.{IsWritten, IsShort}
use Rattle.hv_print.proofs.ReadsBack.{reads_back}
use Rattle.hv_print.proofs.OneTree.{one_tree}

pub tells_apart : (a b : Tree) → IsWritten a → IsWritten b → IsShort a → Printed a ≡ Printed b → Aside a ≡ Aside b
tells_apart a b wa wb short e =
    let ra = reads_back a wa short in
    let rb = reads_back b wb (subst (λ bs. length bs ≤ most_bytes) e short) in
    let tokens = (only_one (Printed a) ra.tokens rb.tokens None None ra.lexes (subst (λ bs. Lexes bs rb.tokens None) (sym e) rb.lexes)).0 in
    let tree = one_tree ra.tokens ra.again rb.again ra.spells (subst (Spells rb.again) tokens rb.spells) in
    sym ra.same ∙ ap Aside tree ∙ rb.same
