-- What holds of each event of a flow.
use Rattle.std.specs.Prelude.{⊤}
use Rattle.hv_rules.specs.Flow.{Flow, Skip, Do, Stop, Then, Either, Loop}

abbrev pub Each : {E : Type 0} → (E → Type 0) → Flow E → Type 0
Each Is Skip = ⊤
Each Is (Do e) = Is e
Each Is (Stop e) = Is e
Each Is (Then a b) = Each Is a × Each Is b
Each Is (Either a b) = Each Is a × Each Is b
Each Is (Loop a) = Each Is a
