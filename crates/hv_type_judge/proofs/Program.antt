-- The first of all that is judged wrong in a program is its first violation of a rule of types.
use Rattle.std.proofs.Common.{◌≡◌, ◌≢◌, ◌⊎◌, inl, inr, ℕ, ◌<◌, Bool, true, false, not, ◌||◌, nat_lt, List, [], ◌∷◌, ◌++◌, length, Option, Some, None, Contains, Decides, refl, sym}
use Rattle.std.proofs.lemmas.Bool.Decides.{Decides-ltb}
use Rattle.hv_tree.specs.declared.place.Place.{Place}
use Rattle.hv_tree.specs.declared.refusal.Rule.{Rule}
use Rattle.hv_tree.specs.declared.refusal.Rule.TheVariants as rule
use Rattle.hv_tree.specs.declared.refusal.Refusal.{Refusal}
use Rattle.hv_tree.specs.Core.{Core, CoreDecl, StructOf, FunOf, CoreFun, CoreStruct}
use Rattle.hv_decls.specs.Types.{StructType, within, leaves_of, most_depth, most_leaves}
use Rattle.hv_decls.specs.Sites.{Part, Site, sites_of}
use Rattle.hv_tree.specs.Earlier.{IsFirst}
use Rattle.hv_type_rules.specs.Names.{IsViolatedByNames}
use Rattle.hv_type_rules.specs.TypeRules.{ViolatesType, IsViolatedByTypes, at_part, at_struct, ViolatesT4, TooGreat}
use Rattle.hv_rules.specs.Rules.{IsViolatedByEvents, in_body, at_task}
use Rattle.hv_rules.specs.Accepted.{NamePhase, TypePhase, phase_of, IsViolated, IsViolatedInPhase, IsFirstOf}
use Rattle.hv_type_judge.specs.Judged as spec
use Rattle.hv_lemmas.proofs.Members.{Among, in_left, in_right, either_in, listed, contained}
use Rattle.hv_type_judge.proofs.Exact.{Exact, none, one, both}
use Rattle.hv_type_judge.proofs.Deciding.{Holding, either}
use Rattle.hv_type_judge.proofs.Sound.{sound}
use Rattle.hv_type_judge.proofs.Whole.{whole}

-- ---- structs

is_false : (b : Bool) → Decides (not b) (b ≡ false)
is_false true = (λ e. cc, λ e. cc)
is_false false = (λ e. refl, λ e. refl)

great_decides : (tree : Core) (s : CoreStruct) → Decides (spec.too_great tree s) (TooGreat tree s)
great_decides tree s =
    let t = StructType s.name.text in
    either (not (within tree most_depth t)) (nat_lt most_leaves (length (leaves_of tree t))) (within tree most_depth t ≡ false) (most_leaves < length (leaves_of tree t))
    (is_false (within tree most_depth t)) (Decides-ltb most_leaves (length (leaves_of tree t)))

-- one of the structs is too great
abbrev Great : Core → List CoreDecl → Place → Type 0
Great tree decls place = (s : CoreStruct) × Among decls (StructOf s) × (s.name.place ≡ place) × TooGreat tree s

first_or : (tree : Core) (d : CoreDecl) (ds : List CoreDecl) (place : Place) → Great tree (d ∷ ds) place → ((s : CoreStruct) × (d ≡ StructOf s) × (s.name.place ≡ place) × TooGreat tree s) ⊎ Great tree ds place
first_or tree d ds place (s, inl e, at, g) = inl (s, e, at, g)
first_or tree d ds place (s, inr h, at, g) = inr (s, h, at, g)

moved : (P : CoreStruct → Type 0) (s t : CoreStruct) → s ≡ t → P s → P t
moved P s t e h = rw (← e) h

-- a struct more
struct_more : (tree : Core) (s : CoreStruct) (ds : List CoreDecl) → Exact (spec.struct_t4 tree ds) rule.T4 (Great tree ds) → Exact (spec.struct_t4 tree (StructOf s ∷ ds)) rule.T4 (Great tree (StructOf s ∷ ds))
struct_more tree s ds rest = record {
  sound = λ r h. let f = e.sound r h in (f.0, to r.place f.1);
  whole = λ place v. e.whole place (back place (first_or tree (StructOf s) ds place v));
}
  where
    e : Exact (spec.struct_t4 tree (StructOf s ∷ ds)) rule.T4 (λ place. ((s.name.place ≡ place) × TooGreat tree s) ⊎ Great tree ds place)
    e =
        both (spec.only (spec.too_great tree s) (spec.refusal rule.T4 s.name.place)) (spec.struct_t4 tree ds) rule.T4 (λ place. (s.name.place ≡ place) × TooGreat tree s) (Great tree ds)
        (one (spec.too_great tree s) rule.T4 s.name.place (λ place. (s.name.place ≡ place) × TooGreat tree s) (λ f. (refl, (great_decides tree s).0 f)) (λ p v. (v.0, (great_decides tree s).1 v.1))) rest

    to : (place : Place) → ((s.name.place ≡ place) × TooGreat tree s) ⊎ Great tree ds place → Great tree (StructOf s ∷ ds) place
    to place (inl (at, g)) = (s, inl refl, at, g)
    to place (inr (t, h, at, g)) = (t, inr h, at, g)

    back : (place : Place) → ((t : CoreStruct) × (StructOf s ≡ StructOf t) × (t.name.place ≡ place) × TooGreat tree t) ⊎ Great tree ds place → ((s.name.place ≡ place) × TooGreat tree s) ⊎ Great tree ds place
    back place (inl (t, f, at, g)) = let same : t ≡ s = cc in inl (moved (λ u. (u.name.place ≡ place) × TooGreat tree u) t s same (at, g))
    back place (inr v) = inr v

-- a function more
fun_more : (tree : Core) (f : CoreFun) (ds : List CoreDecl) → Exact (spec.struct_t4 tree ds) rule.T4 (Great tree ds) → Exact (spec.struct_t4 tree (FunOf f ∷ ds)) rule.T4 (Great tree (FunOf f ∷ ds))
fun_more tree f ds rest = record {
  sound = λ r h. let s = rest.sound r h in (s.0, (s.1.0, inr s.1.1, s.1.2, s.1.3));
  whole = λ place v. rest.whole place (back place (first_or tree (FunOf f) ds place v));
}
  where
    back : (place : Place) → ((t : CoreStruct) × (FunOf f ≡ StructOf t) × (t.name.place ≡ place) × TooGreat tree t) ⊎ Great tree ds place → Great tree ds place
    back place (inl (t, g, at, h)) = cc
    back place (inr v) = v

structs : (tree : Core) (decls : List CoreDecl) → Exact (spec.struct_t4 tree decls) rule.T4 (Great tree decls)
structs tree [] = none rule.T4 (Great tree []) (λ p v. v.1)
structs tree (StructOf s ∷ ds) = struct_more tree s ds (structs tree ds)
structs tree (FunOf f ∷ ds) = fun_more tree f ds (structs tree ds)

-- ---- sites

module _ (tree : Core) (holding : List (List ℕ)) (exact : Holding tree holding) where
  out_sites : (ws : List Site) (r : Refusal) → Among (spec.sites_judged tree holding ws) r → (w : Site) × Among ws w × Among (spec.judged tree holding w.scope w.part) r
  out_sites [] r h = absurd h
  out_sites (w ∷ ws) r h = by (either_in (spec.judged tree holding w.scope w.part) (spec.sites_judged tree holding ws) r h) (out_sites ws r)
    where
      by : Among (spec.judged tree holding w.scope w.part) r ⊎ Among (spec.sites_judged tree holding ws) r → (Among (spec.sites_judged tree holding ws) r → (v : Site) × Among ws v × Among (spec.judged tree holding v.scope v.part) r) → (v : Site) × Among (w ∷ ws) v × Among (spec.judged tree holding v.scope v.part) r
      by (inl i) f = (w, inl refl, i)
      by (inr i) f = let o = f i in (o.0, inr o.1, o.2)

  in_sites : (ws : List Site) (w : Site) (r : Refusal) → Among ws w → Among (spec.judged tree holding w.scope w.part) r → Among (spec.sites_judged tree holding ws) r
  in_sites [] w r h k = absurd h
  in_sites (v ∷ ws) w r (inl e) k = in_left (spec.judged tree holding v.scope v.part) (spec.sites_judged tree holding ws) r (rw e k)
  in_sites (v ∷ ws) w r (inr h) k = in_right (spec.judged tree holding v.scope v.part) (spec.sites_judged tree holding ws) r (in_sites ws w r h k)

  -- ---- the whole program

  all_sound : (r : Refusal) → Among (spec.all_judged tree holding) r → IsViolatedByTypes tree r.rule r.place
  all_sound r h = by (either_in (spec.sites_judged tree holding (sites_of tree)) (spec.struct_t4 tree tree.decls) r h)
    where
      by : Among (spec.sites_judged tree holding (sites_of tree)) r ⊎ Among (spec.struct_t4 tree tree.decls) r → IsViolatedByTypes tree r.rule r.place
      by (inl i) = let o = out_sites (sites_of tree) r i in at_part o.0 (contained (sites_of tree) o.0 o.1) (sound tree holding o.0.scope exact o.0.part r o.2)
      by (inr i) = let s = (structs tree tree.decls).sound r i in at_struct s.0 (s.1.0, contained tree.decls (StructOf s.1.0) s.1.1, s.1.2, s.1.3)

  all_whole : (k : Rule) (place : Place) → IsViolatedByTypes tree k place → Among (spec.all_judged tree holding) (spec.refusal k place)
  all_whole k place (at_part w c v) =
      in_left (spec.sites_judged tree holding (sites_of tree)) (spec.struct_t4 tree tree.decls) (spec.refusal k place)
      (in_sites (sites_of tree) w (spec.refusal k place) (listed (sites_of tree) w c) (whole tree holding w.scope exact place k w.part v))
  all_whole k place (at_struct e (s, c, at, g)) =
      in_right (spec.sites_judged tree holding (sites_of tree)) (spec.struct_t4 tree tree.decls) (spec.refusal k place)
      (rw e ((structs tree tree.decls).whole place (s, listed tree.decls (StructOf s) c, at, g)))

-- ---- the phase of types

no_name : (tree : Core) (k : Rule) (place : Place) → phase_of k ≡ Some TypePhase → IsViolatedByNames tree k place → ⊥
no_name tree rule.L0 place e h = cc
no_name tree rule.L1 place e h = cc
no_name tree rule.L2 place e h = cc
no_name tree rule.L3 place e h = cc
no_name tree rule.P1 place e h = cc
no_name tree rule.P2 place e h = cc
no_name tree rule.N1 place e h = cc
no_name tree rule.N2 place e h = cc
no_name tree rule.N3 place e h = cc
no_name tree rule.T1 place e h = h
no_name tree rule.T2 place e h = h
no_name tree rule.T3 place e h = h
no_name tree rule.T4 place e h = h
no_name tree rule.T5 place e h = h
no_name tree rule.T6 place e h = h
no_name tree rule.T7 place e h = h
no_name tree rule.T8 place e h = h
no_name tree rule.T9 place e h = h
no_name tree rule.I1 place e h = cc
no_name tree rule.I2 place e h = cc
no_name tree rule.I3 place e h = cc
no_name tree rule.X1 place e h = cc
no_name tree rule.X2 place e h = cc
no_name tree rule.S1 place e h = cc
no_name tree rule.S2 place e h = cc
no_name tree rule.S3 place e h = cc

no_event : (tree : Core) (k : Rule) (place : Place) → phase_of k ≡ Some TypePhase → IsViolatedByEvents tree k place → ⊥
no_event tree rule.L0 place e h = cc
no_event tree rule.L1 place e h = cc
no_event tree rule.L2 place e h = cc
no_event tree rule.L3 place e h = cc
no_event tree rule.P1 place e h = cc
no_event tree rule.P2 place e h = cc
no_event tree rule.N1 place e h = cc
no_event tree rule.N2 place e h = cc
no_event tree rule.N3 place e h = cc
no_event tree rule.T1 place e (in_body body c v) = v.violates
no_event tree rule.T1 place e (at_task w f c v) = cc
no_event tree rule.T2 place e (in_body body c v) = v.violates
no_event tree rule.T2 place e (at_task w f c v) = cc
no_event tree rule.T3 place e (in_body body c v) = v.violates
no_event tree rule.T3 place e (at_task w f c v) = cc
no_event tree rule.T4 place e (in_body body c v) = v.violates
no_event tree rule.T4 place e (at_task w f c v) = cc
no_event tree rule.T5 place e (in_body body c v) = v.violates
no_event tree rule.T5 place e (at_task w f c v) = cc
no_event tree rule.T6 place e (in_body body c v) = v.violates
no_event tree rule.T6 place e (at_task w f c v) = cc
no_event tree rule.T7 place e (in_body body c v) = v.violates
no_event tree rule.T7 place e (at_task w f c v) = cc
no_event tree rule.T8 place e (in_body body c v) = v.violates
no_event tree rule.T8 place e (at_task w f c v) = cc
no_event tree rule.T9 place e (in_body body c v) = v.violates
no_event tree rule.T9 place e (at_task w f c v) = cc
no_event tree rule.I1 place e h = cc
no_event tree rule.I2 place e h = cc
no_event tree rule.I3 place e h = cc
no_event tree rule.X1 place e h = cc
no_event tree rule.X2 place e h = cc
no_event tree rule.S1 place e h = cc
no_event tree rule.S2 place e h = cc
no_event tree rule.S3 place e h = cc

in_types : (tree : Core) (k : Rule) (place : Place) → IsViolatedByTypes tree k place → phase_of k ≡ Some TypePhase
in_types tree rule.L0 place (at_part w c v) = absurd v
in_types tree rule.L0 place (at_struct e v) = cc
in_types tree rule.L1 place (at_part w c v) = absurd v
in_types tree rule.L1 place (at_struct e v) = cc
in_types tree rule.L2 place (at_part w c v) = absurd v
in_types tree rule.L2 place (at_struct e v) = cc
in_types tree rule.L3 place (at_part w c v) = absurd v
in_types tree rule.L3 place (at_struct e v) = cc
in_types tree rule.P1 place (at_part w c v) = absurd v
in_types tree rule.P1 place (at_struct e v) = cc
in_types tree rule.P2 place (at_part w c v) = absurd v
in_types tree rule.P2 place (at_struct e v) = cc
in_types tree rule.N1 place (at_part w c v) = absurd v
in_types tree rule.N1 place (at_struct e v) = cc
in_types tree rule.N2 place (at_part w c v) = absurd v
in_types tree rule.N2 place (at_struct e v) = cc
in_types tree rule.N3 place (at_part w c v) = absurd v
in_types tree rule.N3 place (at_struct e v) = cc
in_types tree rule.T1 place v = refl
in_types tree rule.T2 place v = refl
in_types tree rule.T3 place v = refl
in_types tree rule.T4 place v = refl
in_types tree rule.T5 place v = refl
in_types tree rule.T6 place v = refl
in_types tree rule.T7 place v = refl
in_types tree rule.T8 place v = refl
in_types tree rule.T9 place v = refl
in_types tree rule.I1 place (at_part w c v) = absurd v
in_types tree rule.I1 place (at_struct e v) = cc
in_types tree rule.I2 place (at_part w c v) = absurd v
in_types tree rule.I2 place (at_struct e v) = cc
in_types tree rule.I3 place (at_part w c v) = absurd v
in_types tree rule.I3 place (at_struct e v) = cc
in_types tree rule.X1 place (at_part w c v) = absurd v
in_types tree rule.X1 place (at_struct e v) = cc
in_types tree rule.X2 place (at_part w c v) = absurd v
in_types tree rule.X2 place (at_struct e v) = cc
in_types tree rule.S1 place (at_part w c v) = absurd v
in_types tree rule.S1 place (at_struct e v) = cc
in_types tree rule.S2 place (at_part w c v) = absurd v
in_types tree rule.S2 place (at_struct e v) = cc
in_types tree rule.S3 place (at_part w c v) = absurd v
in_types tree rule.S3 place (at_struct e v) = cc

-- in the phase of types a violation is one of a rule of types
by_types : (tree : Core) (k : Rule) (place : Place) → phase_of k ≡ Some TypePhase → IsViolated tree k place → IsViolatedByTypes tree k place
by_types tree k place e (inl h) = absurd (no_name tree k place e h)
by_types tree k place e (inr (inl h)) = h
by_types tree k place e (inr (inr h)) = absurd (no_event tree k place e h)

-- the first of all that is judged wrong
pub types_first : (tree : Core) (holding : List (List ℕ)) (v : Option Refusal) → Holding tree holding → IsFirst (Contains (spec.all_judged tree holding)) v → IsFirst (IsViolatedInPhase TypePhase tree) v
types_first tree holding None exact n = λ r h. n r (contained (spec.all_judged tree holding) r (all_whole tree holding exact r.rule r.place (by_types tree r.rule r.place h.0 h.1)))
types_first tree holding (Some x) exact (is, least) =
    let v = all_sound tree holding exact x (listed (spec.all_judged tree holding) x is) in (
      (in_types tree x.rule x.place v, inr (inl v)),
      λ r h. least r (contained (spec.all_judged tree holding) r (all_whole tree holding exact r.rule r.place (by_types tree r.rule r.place h.0 h.1))),
    )

-- ---- names before types

no_types : (tree : Core) (v : Option Refusal) → IsFirst (IsViolatedInPhase TypePhase tree) v → IsFirstOf (TypePhase ∷ []) tree v
no_types tree None f = inr (f, refl)
no_types tree (Some x) f = inl (λ e. cc, f)

-- a name is refused
pub named_first : (tree : Core) (x : Refusal) → IsFirstOf (NamePhase ∷ []) tree (Some x) → IsFirstOf (NamePhase ∷ (TypePhase ∷ [])) tree (Some x)
named_first tree x (inl f) = inl f
named_first tree x (inr (f, e)) = cc

-- no name is refused
pub typed_first : (tree : Core) (holding : List (List ℕ)) (v : Option Refusal) → Holding tree holding → IsFirstOf (NamePhase ∷ []) tree None → IsFirst (Contains (spec.all_judged tree holding)) v → IsFirstOf (NamePhase ∷ (TypePhase ∷ [])) tree v
typed_first tree holding v exact (inl (n, f)) first = absurd (n refl)
typed_first tree holding v exact (inr (f, e)) first = inr (f, no_types tree v (types_first tree holding v exact first))
