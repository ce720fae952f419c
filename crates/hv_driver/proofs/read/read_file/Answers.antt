use Rattle.std.proofs.Common.{subst}
use Rattle.std.specs.Io.KnownBytes.{Keeps}
use Rattle.std.proofs.lemmas.Result.{IfOk-weaker}
use Rattle.hv_driver.proofs.Streams.{read_kept}
use Rattle.hv_driver.proofs.read.read_file.Goals as goal

pub returns-in-Ok-start-clause-bytes : goal.returns-in-Ok-start-clause-bytes
returns-in-Ok-start-clause-bytes g c =
    let kept = subst (λ n. Keeps (g.S.Source.files c.args.src.now n) (g.S.Source.left c.start.new.self)) c.in-Ok.ensures.ok c.in-Ok-start.ensures.bytes in
    IfOk-weaker c.read_to_end.result _ _ (λ v h. read_kept _ _ _ v.items kept h) c.read_to_end.ensures.bytes
