-- Constructs of both forms, over equal parts.
use Rattle.std.proofs.Common.{◌≡◌, ℕ, suc, List, [], ◌∷◌, ◌++◌, Option, Some, None, refl, sym, ap, ◌∙◌}
use Rattle.std.proofs.lemmas.List.{append_assoc, append-nil}
use Rattle.hv_tree.specs.declared.place.Place.{Place}
use Rattle.hv_tree.specs.declared.types.Name.{Name}
use Rattle.hv_tree.specs.declared.types.Conv.{Conv}
use Rattle.hv_tree.specs.declared.types.Conv.TheVariants as conv
use Rattle.hv_tree.specs.Core.{Core, CoreSteps}
use Rattle.hv_decls.specs.declared.path.StaticStep.{StaticStep}
use Rattle.hv_decls.specs.Locals.{Local}
use Rattle.hv_decls.specs.Statics.{static_steps}
use Rattle.hv_value.specs.ValueTree.{ValueTree, Parts, Nil, Cons, row}
use Rattle.hv_value.specs.Holes.{emptied}
use Rattle.hv_value.specs.Sizes.{copy_cost}
use Rattle.hv_value.specs.Walk.{Link}
use Rattle.hv_sem_copying.specs.declared.end.Cause.TheVariants.{Kinds}
use Rattle.hv_sem_copying.specs.Run.{Run, Flow, and_then, ◌>>=◌, pure, stuck, pay, counted_from}
use Rattle.hv_sem_copying.specs.Ops as ops
use Rattle.hv_sem_copying.specs.Ops.{Target, Mode, Reads, Writes, Sets, Passed, Value, Lent}
use Rattle.hv_sem_copying.specs.Copying.{copying}
use Rattle.hv_sem_copying.specs.Places as def
use Rattle.hv_sem_copying.specs.Places.{type_of, whole}
use Rattle.hv_sem_copying.specs.Calls as def_calls
use Rattle.hv_sem_copying.specs.Evaluate as def_eval
use Rattle.hv_sem_copying.specs.Evaluate.{if_local}
use Rattle.hv_sem_flat.specs.Accesses.{Plain, Spot, there, put_at, look, Access, access, opened, shut}
use Rattle.hv_sem_flat.specs.Parts as flat
use Rattle.hv_sem_flat.specs.Parts.{Argument, Owns, Lends, Given, taken, counting, moved}
use Rattle.hv_sem_copying.proofs.RunLaws.{bind_assoc, pure_then}
use Rattle.hv_sem_flat.proofs.Runs.{runs, both, later, split, stuck_first, counted_bind, counted_pure, counted_stuck}
use Rattle.hv_sem_flat.proofs.Spots.{written_spot, looked, look_sure, Sees, seen_then, place_then, wrote, shut_nothing, under_shut, counted_lent}

-- ---- lists that are made from the front

pub none_more : {C S A : Type 0} (vs : List A) → ◌≡◌ {A = Run C S (List A)} (pure vs) (pure [] >>= (λ ws. pure (vs ++ ws)))
none_more vs = sym (pure_then [] (λ ws. pure (vs ++ ws)) ∙ ap pure (append-nil vs))

pub one_more : {C S A : Type 0} (vs : List A) (w : A) (from rest : Run C S (List A)) → from ≡ rest >>= (λ ws. pure ((vs ++ w ∷ []) ++ ws)) → (rest >>= (λ ws. pure (w ∷ ws))) >>= (λ ws. pure (vs ++ ws)) ≡ from
one_more vs w from rest h =
    split rest (λ ws. pure (w ∷ ws)) (λ ws. pure (vs ++ ws)) (λ ws. pure_then (w ∷ ws) (λ ws. pure (vs ++ ws)) ∙ ap pure (sym (append_assoc vs (w ∷ []) ws)))
    ∙ sym h

-- ---- places

pub found_sees : (tree : Core) (locals : List Local) (root : Name) (steps : CoreSteps) (indices links : Plain (List (Link Place))) → indices ≡ links → Sees (def.found copying locals tree root steps indices) (flat.found locals root links)
found_sees tree locals root steps indices links e =
    let w = static_steps tree (type_of locals root) steps in
    let S : Spot → Plain (ops.Spot × ValueTree) = λ p. there p >>= (λ t. pure (written_spot w p, t)) in
    let T : Spot → Plain Spot = λ p. there p >>= (λ t. pure p) in
    record {
      steps = w;
      same =
          later (def.local locals root) (λ x. both e (λ ls. looked (record { root = x; written = static_steps tree (type_of locals root) steps; links = ls })))
          ∙ sym (split (def.local locals root) (λ x. links >>= look x) S (λ x. split links (look x) S (λ ls. refl)));
      sure = split (def.local locals root) (λ x. links >>= look x) T (λ x. split links (look x) T (λ ls. look_sure x ls));
    }

pub copied_same : (at : Place) (P : Plain (ops.Spot × ValueTree)) (Q : Plain Spot) → Sees P Q → def.copied at P ≡ flat.copied at Q
copied_same at P Q h = seen_then P Q h (λ f. whole f.1 >>= (λ v. pay (copy_cost v) at >>= (λ paid. pure v)))

pub moved_then : {A : Type 0} (P : Plain (ops.Spot × ValueTree)) (Q : Plain Spot) (h : Sees P Q) (K : ValueTree → Plain A) → P >>= (λ f. def.moved copying f >>= K) ≡ Q >>= (λ p. moved p >>= K)
moved_then P Q h K =
    seen_then P Q h (λ f. def.moved copying f >>= K)
    ∙ later Q (λ p. sym (split (there p) (λ t. whole t >>= (λ v. put_at p (emptied v) >>= (λ done. pure v))) K
    (λ t. both (sym (later (whole t) (λ v. both (wrote h.steps p (emptied v)) (λ done. refl)))) (λ v. refl))))

pub named_same : (tree : Core) (o : Option ℕ) (root : Name) (steps : CoreSteps) (P : Plain (ops.Spot × ValueTree)) (Q : Plain Spot) → Sees P Q → def_eval.named tree o root steps P ≡ flat.named tree o root steps Q
named_same tree None root steps P Q h = refl
named_same tree (Some x) root steps P Q h = copied_same root.place P Q h

-- both are places, or none is
abbrev pub Placed : Option (Plain (ops.Spot × ValueTree)) → Option (Plain Spot) → Type 0
Placed None None = Unit {0}
Placed (Some P) (Some Q) = Sees P Q
Placed _ _ = ⊥

pub placed_if : (o : Option ℕ) (P : Plain (ops.Spot × ValueTree)) (Q : Plain Spot) → Sees P Q → Placed (if_local o P) (if_local o Q)
placed_if None P Q h = tt
placed_if (Some x) P Q h = h

-- ---- captures

abbrev onto_row : List ValueTree → Parts → Parts
onto_row [] ps = ps
onto_row (v ∷ vs) ps = Cons v (onto_row vs ps)

onto-one : (vs : List ValueTree) (v : ValueTree) (ps : Parts) → onto_row (vs ++ v ∷ []) ps ≡ onto_row vs (Cons v ps)
onto-one [] v ps = refl
onto-one (w ∷ vs) v ps = ap (Cons w) (onto-one vs v ps)

onto-nil : (vs : List ValueTree) → onto_row vs Nil ≡ row vs
onto-nil [] = refl
onto-nil (v ∷ vs) = ap (Cons v) (onto-nil vs)

capture_sees : (locals : List Local) (name : Name) → Sees (def.local locals name >>= (λ x. copying.look (record { root = x; written = []; links = [] }))) (def.local locals name >>= (λ x. look x []))
capture_sees locals name =
    let S : Spot → Plain (ops.Spot × ValueTree) = λ p. there p >>= (λ t. pure (written_spot [] p, t)) in
    let T : Spot → Plain Spot = λ p. there p >>= (λ t. pure p) in
    record {
      steps = [];
      same =
          later (def.local locals name) (λ x. looked (record { root = x; written = []; links = [] }))
          ∙ sym (split (def.local locals name) (λ x. look x []) S (λ x. refl));
      sure = split (def.local locals name) (λ x. look x []) T (λ x. look_sure x []);
    }

pub captured_same : {A : Type 0} (locals : List Local) (vs : List ValueTree) (names : List Name) (K : Parts → Plain A) → def.captured copying locals names >>= (λ ps. K (onto_row vs ps)) ≡ flat.captured_from locals vs names >>= (λ ws. K (row ws))
captured_same locals vs [] K = pure_then Nil (λ ps. K (onto_row vs ps)) ∙ ap K (onto-nil vs) ∙ sym (pure_then vs (λ ws. K (row ws)))
captured_same locals vs (name ∷ names) K =
    let P = def.local locals name >>= (λ x. copying.look (record { root = x; written = []; links = [] })) in
    let Q = def.local locals name >>= (λ x. look x []) in
    split (def.copied name.place P) (λ v. def.captured copying locals names >>= (λ ps. pure (Cons v ps))) (λ ps. K (onto_row vs ps))
    (λ v. split (def.captured copying locals names) (λ ps. pure (Cons v ps)) (λ ps. K (onto_row vs ps))
    (λ ps. pure_then (Cons v ps) (λ ps. K (onto_row vs ps)) ∙ ap K (sym (onto-one vs v ps)))
    ∙ captured_same locals (vs ++ v ∷ []) names K)
    ∙ both (copied_same name.place P Q (capture_sees locals name)) (λ v. refl)
    ∙ sym (bind_assoc (flat.copied name.place Q) (λ v. flat.captured_from locals (vs ++ v ∷ []) names) (λ ws. K (row ws)))

-- ---- what is passed

-- behind an argument of the other form
abbrev pub after_argument : (Passed → Plain Flow) → ℕ → List Access → Argument → Plain Flow
after_argument K m opens (Owns mode t) = counted_from m (K (Value mode t)) >>= shut opens
after_argument K m opens (Lends mode p) = opened (access mode m p) >>= (λ done. counted_from (suc m) (K (Lent m)) >>= shut (access mode m p ∷ opens))

-- the rest of a call, where an argument of the one form and one of the other lead to the same
abbrev pub Passes : (Passed → Plain Flow) → ℕ → List Access → Plain Flow → Plain Argument → Type 0
Passes K m opens x q = counted_from m x >>= shut opens ≡ counted_from m q >>= after_argument K m opens

module _ (K : Passed → Plain Flow) (m : ℕ) (opens : List Access) where
  argument_pure : (g : Argument) → counted_from m (pure g) >>= after_argument K m opens ≡ after_argument K m opens g
  argument_pure g = both (counted_pure m g) (λ x. refl) ∙ pure_then g (after_argument K m opens)

  argument_then : {B : Type 0} (q : Plain B) (k : B → Plain Flow) (g : B → Plain Argument) → ((b : B) → Passes K m opens (k b) (g b)) → Passes K m opens (q >>= k) (q >>= g)
  argument_then q k g h =
      both (counted_bind m q k) (λ v. refl)
      ∙ split (counted_from m q) (λ b. counted_from m (k b)) (shut opens) h
      ∙ sym (both (counted_bind m q g) (λ v. refl) ∙ split (counted_from m q) (λ b. counted_from m (g b)) (after_argument K m opens) (λ b. refl))

  argument_stuck : Passes K m opens (stuck Kinds) (stuck Kinds)
  argument_stuck =
      both (counted_stuck m Kinds) (λ v. refl) ∙ stuck_first Kinds (shut opens)
      ∙ sym (both (counted_stuck m Kinds) (λ v. refl) ∙ stuck_first Kinds (after_argument K m opens))

  argument_first : {x y : Plain Flow} (q : Plain Argument) → x ≡ y → Passes K m opens y q → Passes K m opens x q
  argument_first q e h = both (ap (counted_from m) e) (λ v. refl) ∙ h

  lend : (mode : Mode) (w : List StaticStep) (p : Spot) → Passes K m opens (def_calls.lent copying mode (written_spot w p) K) (pure (Lends mode p))
  lend mode w p =
      both (counted_lent m mode (written_spot w p) K) (λ v. refl)
      ∙ under_shut mode m w p (counted_from (suc m) (K (Lent m))) opens
      ∙ sym (argument_pure (Lends mode p))

  own : (mode : Mode) (x : Plain ValueTree) → Passes K m opens (x >>= (λ v. K (Value mode v))) (x >>= (λ v. pure (Owns mode v)))
  own mode x = argument_then x (λ v. K (Value mode v)) (λ v. pure (Owns mode v)) (λ v. sym (argument_pure (Owns mode v)))

  pub value_passes : (c : Conv) (P : Option (Plain (ops.Spot × ValueTree))) (Q : Option (Plain Spot)) (x y : Plain ValueTree) → Placed P Q → x ≡ y → Passes K m opens (def_calls.pass_value copying c P x K) (flat.value_given c Q y)
  value_passes conv.Let (Some P) (Some Q) x y h e =
      argument_first _ (place_then P Q h (λ p. def_calls.lent copying Reads p K))
      (argument_then Q (λ p. def_calls.lent copying Reads (written_spot h.steps p) K) (λ p. pure (Lends Reads p)) (λ p. lend Reads h.steps p))
  value_passes conv.Let None None x y h e = argument_first _ (both e (λ v. refl)) (own Reads y)
  value_passes conv.Let (Some P) None x y h e = absurd h
  value_passes conv.Let None (Some Q) x y h e = absurd h
  value_passes conv.Sink (Some P) (Some Q) x y h e =
      argument_first _ (moved_then P Q h (λ v. K (Value Writes v)))
      (argument_then Q (λ p. moved p >>= (λ v. K (Value Writes v))) (λ p. moved p >>= (λ v. pure (Owns Writes v))) (λ p. own Writes (moved p)))
  value_passes conv.Sink None None x y h e = argument_first _ (both e (λ v. refl)) (own Writes y)
  value_passes conv.Sink (Some P) None x y h e = absurd h
  value_passes conv.Sink None (Some Q) x y h e = absurd h
  value_passes conv.Inout P Q x y h e = argument_stuck
  value_passes conv.Set P Q x y h e = argument_stuck

  pub place_passes : (c : Conv) (P : Plain (ops.Spot × ValueTree)) (Q : Plain Spot) → Sees P Q → Passes K m opens (def_calls.pass_place copying c P K) (flat.place_given c Q)
  place_passes conv.Inout P Q h =
      argument_first _ (place_then P Q h (λ p. def_calls.lent copying Writes p K))
      (argument_then Q (λ p. def_calls.lent copying Writes (written_spot h.steps p) K) (λ p. pure (Lends Writes p)) (λ p. lend Writes h.steps p))
  place_passes conv.Set P Q h =
      let L : Spot → Plain Flow = λ p. def_calls.lent copying Sets (written_spot h.steps p) K in
      argument_first _ (seen_then P Q h (λ f. copying.write f.0 (emptied f.1) >>= (λ done. def_calls.lent copying Sets f.0 K)))
      (argument_then Q (λ p. there p >>= (λ t. copying.write (written_spot h.steps p) (emptied t) >>= (λ done. L p))) (λ p. there p >>= (λ t. put_at p (emptied t) >>= (λ done. pure (Lends Sets p))))
      (λ p. argument_then (there p) (λ t. copying.write (written_spot h.steps p) (emptied t) >>= (λ done. L p)) (λ t. put_at p (emptied t) >>= (λ done. pure (Lends Sets p)))
      (λ t. argument_first _ (both (wrote h.steps p (emptied t)) (λ done. refl))
      (argument_then (put_at p (emptied t)) (λ done. L p) (λ done. pure (Lends Sets p)) (λ done. lend Sets h.steps p)))))
  place_passes conv.Let P Q h = argument_stuck
  place_passes conv.Sink P Q h = argument_stuck

-- ---- arguments

-- the call, and then its accesses close
abbrev pub finish : (List Passed → Plain Flow) → Given → Plain Flow
finish go r = go r.0 >>= shut r.1

-- it doesn't go by the number of references in use
abbrev pub Steady : (List Passed → Plain Flow) → Type 0
Steady go = (m : ℕ) (ps : List Passed) → counted_from m (go ps) ≡ go ps

pub args_step : (m : ℕ) (ps : List Passed) (opens : List Access) (go : List Passed → Plain Flow) (K : Passed → Plain Flow) (from : ℕ → List Passed → List Access → Plain Given) (x : Plain Flow) (q : Plain Argument) → Passes K m opens x q → ((a : Passed) (n : ℕ) (more : List Access) → counted_from n (K a) >>= shut more ≡ from n (ps ++ a ∷ []) more >>= finish go) → counted_from m x >>= shut opens ≡ (counted_from m q >>= (λ g. taken g m ps opens from)) >>= finish go
args_step m ps opens go K from x q h ih = h ∙ sym (split (counted_from m q) (λ g. taken g m ps opens from) (finish go) (λ g. sym (each g)))
  where
    each : (g : Argument) → after_argument K m opens g ≡ taken g m ps opens from >>= finish go
    each (Owns mode t) = ih (Value mode t) m opens
    each (Lends mode p) =
        later (opened (access mode m p)) (λ done. ih (Lent m) (suc m) (access mode m p ∷ opens))
        ∙ sym (bind_assoc (opened (access mode m p)) (λ done. from (suc m) (ps ++ Lent m ∷ []) (access mode m p ∷ opens)) (finish go))

-- from the number of references in use
pub counted_same_all : (X : Plain Flow) (Y : ℕ → Plain Given) (F : Given → Plain Flow) → ((m : ℕ) → counted_from m X >>= shut [] ≡ Y m >>= F) → X ≡ counting Y >>= F
unfolding counting and_then counted_from
counted_same_all X Y F h = runs (λ n c s. ap (λ (z : Plain Flow). z n c s) (sym (shut_nothing (counted_from n X)) ∙ h n))
