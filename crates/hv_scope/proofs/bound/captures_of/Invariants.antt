use Rattle.std.proofs.Common.{◌≡◌, ◌++◌, map, drop}
use Rattle.hv_decls.specs.Sites.{capture_local}
use Rattle.hv_scope.specs.Known.{local_by}
use Rattle.hv_scope.proofs.bound.captures_of.Given as goal

abbrev pub invariant-loop-name : goal.invariant-loop-name
invariant-loop-name l = map local_by l.known.items ++ map (capture_local (map local_by l.visible)) (drop l.name-index l.captures) ≡ map (capture_local (map local_by l.visible)) l.captures
