use Rattle.std.proofs.Common.{◌≡◌, [], ◌∷◌, ◌++◌, refl, arith}
use Rattle.std.specs.Prelude.{string_bytes}
use Rattle.std.proofs.lemmas.Grind.{common_steps}
use Rattle.hv_print.proofs.Parts.{extended, names_next}
use Rattle.hv_print.proofs.types.push_names.Goals as goal

pub loop-name-preserved : goal.loop-name-preserved
unfolding lib.Utf8.encode
loop-name-preserved c =
    let added : string_bytes c.push_name.new.out ≡ string_bytes c.loop-name.out ++ (c.loop-name.before.now ++ c.name-item.result.text) = grind (arith, common_steps) in (
      (44 ∷ 32 ∷ [], (refl, refl)),
      extended (string_bytes c.loop-name.out) (string_bytes c.push_name.new.out) _ _ _ _ added
          (names_next c.loop-name.before.now c.args.names.now c.loop-name.name-index c.name-item.result c.loop-name-test.true c.name-item.is) c.loop-name.invariant.1,
    )
