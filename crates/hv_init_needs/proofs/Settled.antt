-- A local that needs no state is filled wherever an event asks for it.
use Rattle.std.proofs.Common.{◌≡◌, ◌||◌, not, inl, inr, ℕ, Bool, true, false, List, [], ◌∷◌, ◌++◌, Option, Some, refl, ap, subst, ◌∙◌}
use Rattle.std.proofs.lemmas.Bool.{eq-eqb}
use Rattle.std.specs.List.{list_any}
use Rattle.hv_tree.specs.Core.{Core}
use Rattle.hv_decls.specs.declared.path.StaticPath.{StaticPath}
use Rattle.hv_rules.specs.Flow.{IsTrace}
use Rattle.hv_decls.specs.Locals.{CoreBody}
use Rattle.hv_rules.specs.Events.{Mark, body_events}
use Rattle.hv_rules.specs.Rules.{Trace, asks_whole}
use Rattle.hv_flow_traces.specs.Carried.{after_each}
use Rattle.hv_flow_traces.proofs.CarriedLemmas.{zipped, zipped-append, trace_zipped}
use Rattle.hv_init_cells.specs.Layout.{IsFilledWhereAsked}
use Rattle.hv_init_needs.specs.Sight.{sees, seen_in}
use Rattle.hv_init_needs.specs.Needs.{is_root, gives_at, unsettles, text_in, needs_state}
use Rattle.hv_init_needs.proofs.SightLevels.{body_level}
use Rattle.hv_init_needs.proofs.Filled.{trace_last, back_asked_is_filled, path_asked_is_filled}
use Rattle.hv_init_needs.proofs.Backs.{IsSeenBack, backs_are_seen}

-- a local that needs no state gets a value from its declaration
given_first : (a b : Bool) → (not a || b) ≡ false → a ≡ true
given_first true b e = refl
given_first false b e = cc

asked_root : (o : Option StaticPath) (p : StaticPath) (k : ℕ) → o ≡ Some p → p.root ≡ k → is_root o k ≡ true
asked_root o p k e r = ap (λ (q : Option StaticPath). is_root q k) e ∙ eq-eqb p.root k r

module _ (tree : Core) (body : CoreBody) where
  -- each event at the end of a trace stands in the text with what is in sight there
  seen_last : (before : List Mark) (last : Mark) → Trace tree body (before ++ last ∷ []) → IsTrace (seen_in tree body) (zipped sees before [] ++ (last, after_each sees before []) ∷ [])
  seen_last before last t =
      subst (λ w. IsTrace (seen_in tree body) w) (zipped-append sees before (last ∷ []) []) (trace_zipped sees (body_events tree body) [] (body_level tree body) (before ++ last ∷ []) t)

  pub filled_where_asked : (k : ℕ) → needs_state tree body k ≡ false → IsFilledWhereAsked tree body k
  filled_where_asked k settled before last t (inl (p, a, r)) leaf i =
      path_asked_is_filled tree body k settled before last t (asked_root (asks_whole last.event) p k a r) leaf
  filled_where_asked k settled before last t (inr c) leaf i =
      back_asked_is_filled tree body k settled before last t
      (trace_last (IsSeenBack tree body) (seen_in tree body) (backs_are_seen tree body) (zipped sees before []) (last, after_each sees before []) (seen_last before last t) k c
      (given_first (list_any (gives_at k) (text_in tree body)) (list_any (unsettles k) (text_in tree body)) settled))
      leaf
