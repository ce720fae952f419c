-- Structs that are too great, and the first violation of all.
use Rattle.std.proofs.Common.{◌≡◌, inl, inr, ℕ, not, ◌||◌, nat_lt, List, [], ◌∷◌, ◌++◌, length, Option, Some, None, Contains, subst, refl, sym, ap, ◌∙◌}
use Rattle.hv_tree.specs.declared.refusal.Rule.TheVariants as rule
use Rattle.hv_tree.specs.declared.refusal.Refusal.{Refusal}
use Rattle.hv_tree.specs.Core.{Core, CoreDecl, StructOf, FunOf}
use Rattle.hv_decls.specs.Types.{StructType, within, leaves_of, most_depth, most_leaves}
use Rattle.hv_tree.specs.Earlier.{IsFirst}
use Rattle.hv_rules.specs.Accepted.{NamePhase, TypePhase, IsFirstOf, IsViolatedInPhase}
use Rattle.hv_scope.specs.Tops.{structs_in, struct_number}
use Rattle.hv_type_judge.specs.Judged as judged
use Rattle.hv_type_judge.proofs.Program.{types_first}
use Rattle.hv_types.specs.declared.fields.FieldType.{FieldType}
use Rattle.hv_types.specs.Table.{table_of, by_number}
use Rattle.hv_types.specs.Rounds as rounds
use Rattle.hv_types.specs.Counts as counts
use Rattle.hv_types.specs.Structs as spec
use Rattle.hv_types.proofs.RoundLemmas.{depth_known}
use Rattle.hv_types.proofs.CountLemmas.{counted, many_known}

-- by the number of a struct
great_by : (ds cs : List ℕ) (o : Option ℕ) → spec.is_great ds cs o ≡ (not (rounds.fits ds most_depth (by_number o)) || nat_lt most_leaves (counts.field_count cs (by_number o)))
great_by ds cs None = refl
great_by ds cs (Some i) = refl

deep_known : (tree : Core) (s : List ℕ) → within tree most_depth (StructType s) ≡ rounds.fits (rounds.all_depths (table_of tree)) most_depth (by_number (struct_number tree.decls s))
unfolding rounds.all_depths
deep_known tree s = depth_known tree s

leaves_known : (tree : Core) (s : List ℕ) → nat_lt most_leaves (counts.field_count (counts.all_counts (table_of tree)) (by_number (struct_number tree.decls s))) ≡ nat_lt most_leaves (length (leaves_of tree (StructType s)))
unfolding counts.all_counts
leaves_known tree s = many_known (length (leaves_of tree (StructType s))) (counts.field_count (counts.counts_after (table_of tree) most_depth) (by_number (struct_number tree.decls s))) (counted tree most_depth (StructType s))

great_named : (tree : Core) (s : List ℕ) →
    spec.is_great (rounds.all_depths (table_of tree)) (counts.all_counts (table_of tree)) (struct_number tree.decls s)
    ≡ (not (within tree most_depth (StructType s)) || nat_lt most_leaves (length (leaves_of tree (StructType s))))
great_named tree s =
    great_by (rounds.all_depths (table_of tree)) (counts.all_counts (table_of tree)) (struct_number tree.decls s)
    ∙ ap (λ b. not b || nat_lt most_leaves (counts.field_count (counts.all_counts (table_of tree)) (by_number (struct_number tree.decls s)))) (sym (deep_known tree s))
    ∙ ap (λ b. not (within tree most_depth (StructType s)) || b) (leaves_known tree s)

all_great : (tree : Core) (decls : List CoreDecl) → spec.great_judged tree (rounds.all_depths (table_of tree)) (counts.all_counts (table_of tree)) (structs_in decls) ≡ judged.struct_t4 tree decls
all_great tree [] = refl
all_great tree (StructOf s ∷ rest) =
    ap (λ b. judged.only b (judged.refusal rule.T4 s.name.place) ++ spec.great_judged tree (rounds.all_depths (table_of tree)) (counts.all_counts (table_of tree)) (structs_in rest)) (great_named tree s.name.text)
    ∙ ap (λ l. judged.only (judged.too_great tree s) (judged.refusal rule.T4 s.name.place) ++ l) (all_great tree rest)
all_great tree (FunOf f ∷ rest) = all_great tree rest

-- by what code has
pub great_found : (tree : Core) (rows : List (List FieldType)) (ds cs : List ℕ) (old new : List Refusal) → rows ≡ table_of tree → ds ≡ rounds.all_depths rows → cs ≡ counts.all_counts rows →
    new ≡ old ++ spec.great_judged tree ds cs (structs_in tree.decls) → new ≡ old ++ judged.struct_t4 tree tree.decls
great_found tree rows ds cs old new e f g h =
    h
    ∙ ap (λ l. old ++ spec.great_judged tree l cs (structs_in tree.decls)) (f ∙ ap rounds.all_depths e)
    ∙ ap (λ l. old ++ spec.great_judged tree (rounds.all_depths (table_of tree)) l (structs_in tree.decls)) (g ∙ ap counts.all_counts e)
    ∙ ap (λ l. old ++ l) (all_great tree tree.decls)

-- the first of all that is found
pub found_first : (tree : Core) (found also : List Refusal) (v : Option Refusal) → spec.IsAllJudged tree found → also ≡ found → IsFirst (Contains also) v → IsFirst (IsViolatedInPhase TypePhase tree) v
found_first tree found also v (names, hold, e) f g = types_first tree names v hold (subst (λ (l : List Refusal). IsFirst (Contains l) v) (f ∙ e) g)

-- no name is refused
no_types : (tree : Core) (v : Option Refusal) → IsFirst (IsViolatedInPhase TypePhase tree) v → IsFirstOf (TypePhase ∷ []) tree v
no_types tree None f = inr (f, refl)
no_types tree (Some x) f = inl (λ e. cc, f)

pub typed_first : (tree : Core) (v : Option Refusal) → IsFirstOf (NamePhase ∷ []) tree None → IsFirst (IsViolatedInPhase TypePhase tree) v → IsFirstOf (NamePhase ∷ (TypePhase ∷ [])) tree v
typed_first tree v (inl (n, f)) first = absurd (n refl)
typed_first tree v (inr (f, e)) first = inr (f, no_types tree v first)
