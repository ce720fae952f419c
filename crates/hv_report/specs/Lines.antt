-- The texts: a refusal's line, and the report of a run.
use Rattle.std.specs.Prelude.{ℕ, Bool, true, false, List, [], ◌∷◌, ◌++◌, map, codes, decimal}
use Rattle.std.specs.List.{join_with_byte}
use Rattle.hv_tree.specs.Place.{line_of, column_of}
use Rattle.hv_tree.specs.declared.place.Place.{Place}
use Rattle.hv_tree.specs.declared.refusal.Rule.{Rule}
use Rattle.hv_tree.specs.declared.refusal.Rule.TheVariants as rule
use Rattle.hv_tree.specs.declared.refusal.Refusal.{Refusal}
use Rattle.hv_sem_copying.specs.declared.end.TrapKind.{TrapKind}
use Rattle.hv_sem_copying.specs.declared.end.TrapKind.TheVariants as trap
use Rattle.hv_sem_copying.specs.Node.{Id, End, Done, Trapped, SpentAt, Node, NodeOf, Nodes, NoNodes, NodeAnd, end_of, output_of}

-- a place as LINE:COLUMN, and what follows it
abbrev pub at_place : List ℕ → Place → List ℕ → List ℕ
at_place source place rest =
    decimal (line_of source place.start) ++ (codes ":" ++ (decimal (column_of source place.start) ++ rest))

-- ---- refusals

abbrev pub rule_name : Rule → List ℕ
rule_name rule.L0 = codes "L0"
rule_name rule.L1 = codes "L1"
rule_name rule.L2 = codes "L2"
rule_name rule.L3 = codes "L3"
rule_name rule.P1 = codes "P1"
rule_name rule.P2 = codes "P2"
rule_name rule.N1 = codes "N1"
rule_name rule.N2 = codes "N2"
rule_name rule.N3 = codes "N3"
rule_name rule.T1 = codes "T1"
rule_name rule.T2 = codes "T2"
rule_name rule.T3 = codes "T3"
rule_name rule.T4 = codes "T4"
rule_name rule.T5 = codes "T5"
rule_name rule.T6 = codes "T6"
rule_name rule.T7 = codes "T7"
rule_name rule.T8 = codes "T8"
rule_name rule.T9 = codes "T9"
rule_name rule.I1 = codes "I1"
rule_name rule.I2 = codes "I2"
rule_name rule.I3 = codes "I3"
rule_name rule.X1 = codes "X1"
rule_name rule.X2 = codes "X2"
rule_name rule.S1 = codes "S1"
rule_name rule.S2 = codes "S2"
rule_name rule.S3 = codes "S3"

abbrev pub refusal_text : List ℕ → Refusal → List ℕ
refusal_text source refusal = codes "refused " ++ (rule_name refusal.rule ++ (codes " at " ++ at_place source refusal.place (10 ∷ [])))

-- ---- runs

abbrev pub kind_name : TrapKind → List ℕ
kind_name trap.Overflow = codes "overflow"
kind_name trap.DivZero = codes "divzero"
kind_name trap.Index = codes "index"
kind_name trap.BadLength = codes "badlength"
kind_name trap.TooLong = codes "toolong"
kind_name trap.BadBudget = codes "badbudget"
kind_name trap.TooDeep = codes "toodeep"

-- a task's numbers in decimal with dots between them
abbrev pub id_text : Id → List ℕ
id_text id = join_with_byte 46 (map decimal id)

-- how a task ended
abbrev pub ending : List ℕ → End → List ℕ
ending source (Done value) = codes "done"
ending source (Trapped kind place id) = codes "trap " ++ (kind_name kind ++ (codes " at " ++ at_place source place (codes " in " ++ id_text id)))
ending source (SpentAt place id) = codes "spent at " ++ at_place source place (codes " in " ++ id_text id)

-- a line, unless the root is done
abbrev pub ending_line : List ℕ → End → List ℕ
ending_line source (Done value) = []
ending_line source (Trapped kind place id) = ending source (Trapped kind place id) ++ 10 ∷ []
ending_line source (SpentAt place id) = ending source (SpentAt place id) ++ 10 ∷ []

-- the line of one task
abbrev pub task_line : List ℕ → Id → ℕ → End → List ℕ
task_line source id steps end = codes "task " ++ (id_text id ++ (codes " steps " ++ (decimal steps ++ (codes " " ++ (ending source end ++ 10 ∷ [])))))

abbrev mutual
  -- the line of a task, and then those of its children in the order of their spawns
  pub task_lines : List ℕ → Node → List ℕ
  task_lines source (NodeOf id steps end output children) = task_line source id steps end ++ child_lines source children

  pub child_lines : List ℕ → Nodes → List ℕ
  child_lines source NoNodes = []
  child_lines source (NodeAnd node rest) = task_lines source node ++ child_lines source rest

abbrev pub trace_of : List ℕ → Node → Bool → List ℕ
trace_of source node true = task_lines source node
trace_of source node false = []

-- the output, the ending, and the trace where one is asked for
abbrev pub report_of : List ℕ → Node → Bool → List ℕ
report_of source node trace = output_of node ++ (ending_line source (end_of node) ++ trace_of source node trace)
