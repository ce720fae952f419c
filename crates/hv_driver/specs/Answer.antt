-- What the tool answers for an order and the bytes of its file.
use Rattle.std.specs.Prelude.{◌≡◌, ℕ, Bool, List, [], ◌∷◌, ◌++◌, Option, Some, None, codes, ⊤}
use Rattle.hv_tree.specs.declared.refusal.Refusal.{Refusal}
use Rattle.hv_tree.specs.declared.ast.Tree.{Tree}
use Rattle.hv_tree.specs.Core.{core_tree}
use Rattle.hv_tree.specs.Printed.{Printed}
use Rattle.hv_words.specs.Taken.{Asked, check, show, plain, run}
use Rattle.hv_check.specs.Checks.{IsAccepted, IsFirst}
use Rattle.hv_sem_copying.specs.Node.{Node, End, end_of}
use Rattle.hv_sem_copying.specs.Node as node
use Rattle.hv_sem_copying.specs.Meaning.{node_of}
use Rattle.hv_law_safe.specs.Runs.{Runs}
use Rattle.hv_report.specs.Lines.{refusal_text, report_of}
use Rattle.hv_driver.specs.declared.status.Status.{Status}
use Rattle.hv_driver.specs.declared.status.Status.TheVariants.{Done, Refused, Trapped, Spent, SourceFault, NoMemory}
use Rattle.hv_driver.specs.Delivers.{Delivers}
use Rattle.hv_driver.specs.Took.{ReadsFile}

abbrev pub usage_line : List ℕ
usage_line = codes "usage: hv check|show|plain|run|replay|gen" ++ 10 ∷ []

abbrev pub status_of : End → Status
status_of (node.Done value) = Done
status_of (node.Trapped kind place id) = Trapped
status_of (node.SpentAt place id) = Spent

-- ---- orders

abbrev pub file_of : Asked → List ℕ
file_of (check file) = file
file_of (show file) = file
file_of (plain file steps trace) = file
file_of (run file steps trace) = file

abbrev pub IsCheck : Asked → Type 0
IsCheck asked = (file : List ℕ) × (asked ≡ check file)

abbrev pub IsShow : Asked → Type 0
IsShow asked = (file : List ℕ) × (asked ≡ show file)

-- the steps of a run and whether a trace is asked for; `plain` and `run` answer alike
abbrev pub run_of : Asked → Option (ℕ × Bool)
run_of (check file) = None
run_of (show file) = None
run_of (plain file steps trace) = Some (steps, trace)
run_of (run file steps trace) = Some (steps, trace)

-- ---- answers

-- The status and the text for an order and bytes, one case a line of the command's table.
pub data Answers (asked : Asked) (bytes : List ℕ) (status : Status) (text : List ℕ) : Type 0 where
  -- the first rule that the bytes violate
  refused : (refusal : Refusal) → IsFirst bytes refusal → status ≡ Refused → text ≡ refusal_text bytes refusal → Answers asked bytes status text
  checked : (tree : Tree) → IsAccepted bytes tree → IsCheck asked → status ≡ Done → text ≡ codes "accepted" ++ 10 ∷ [] → Answers asked bytes status text
  shown : (tree : Tree) → IsAccepted bytes tree → IsShow asked → status ≡ Done → text ≡ Printed tree → Answers asked bytes status text
  -- this program doesn't run yet
  unready : (tree : Tree) (steps : ℕ) (trace : Bool) → IsAccepted bytes tree → run_of asked ≡ Some (steps, trace) → (Runs (core_tree tree) → ⊥) →
      status ≡ Refused → text ≡ codes "refused U1 at 1:1" ++ 10 ∷ [] → Answers asked bytes status text
  -- the report of the run that the meaning gives
  ran : (tree : Tree) (steps : ℕ) (trace : Bool) (node : Node) → IsAccepted bytes tree → run_of asked ≡ Some (steps, trace) → Runs (core_tree tree) → node_of (core_tree tree) steps ≡ Some node →
      status ≡ status_of (end_of node) → text ≡ report_of bytes node trace → Answers asked bytes status text

-- the bytes of the file were read, and the sink got the answer for them
pub record AnswersFile (asked : Asked) (told left : Option (List ℕ)) (result : Status) (before after : Option (List ℕ)) (faults now : ℕ) : Type 0 where
  pub bytes : List ℕ
  pub read : ReadsFile told left bytes
  pub status : Status
  pub text : List ℕ
  pub answers : Answers asked bytes status text
  pub delivered : Delivers status result text before after faults now

-- P, unless the source couldn't be read or memory ran out
abbrev pub IfAnswered : Status → Type 0 → Type 0
IfAnswered SourceFault P = ⊤
IfAnswered NoMemory P = ⊤
IfAnswered _ P = P

-- P, unless memory ran out
abbrev pub UnlessNoMemory : Status → Type 0 → Type 0
UnlessNoMemory NoMemory P = ⊤
UnlessNoMemory _ P = P
