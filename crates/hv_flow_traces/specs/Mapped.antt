-- A flow whose events are replaced.
use Rattle.hv_rules.specs.Flow.{Flow, Skip, Do, Stop, Then, Either, Loop}

abbrev pub mapped : {M E : Type 0} → (M → E) → Flow M → Flow E
mapped g Skip = Skip
mapped g (Do m) = Do (g m)
mapped g (Stop m) = Stop (g m)
mapped g (Then a b) = Then (mapped g a) (mapped g b)
mapped g (Either a b) = Either (mapped g a) (mapped g b)
mapped g (Loop a) = Loop (mapped g a)
