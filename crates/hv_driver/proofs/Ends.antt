-- The answer and its causes.
use Rattle.std.proofs.Common.{◌≡◌, ℕ, List, Option, refl, sym, ◌∙◌, inl, inr, subst}
use Rattle.std.specs.Prelude.{Bool, true, false, IsTrue, ◌↔◌}
use Rattle.hv_words.specs.Taken.{Asked, Taken, Word}
use Rattle.hv_ports.specs.Causes.{Rose}
use Rattle.hv_sem_copying.specs.Node.{End, Done, Trapped, SpentAt, end_of}
use Rattle.hv_driver.specs.declared.status.Status.{Status}
use Rattle.hv_driver.specs.declared.status.Status.TheVariants.{Usage, SourceFault, SinkFault, NoMemory}
use Rattle.hv_driver.specs.Delivers.{Delivers}
use Rattle.hv_driver.specs.Answer.{Answers, refused, checked, shown, unready, ran, AnswersFile, IfAnswered, UnlessNoMemory, status_of, file_of}
use Rattle.hv_driver.specs.Took.{ReadsFile}

-- a status that the answer for some bytes has
abbrev pub IsOrdinary : Status → Type 0
IsOrdinary SourceFault = ⊥
IsOrdinary SinkFault = ⊥
IsOrdinary NoMemory = ⊥
IsOrdinary Usage = ⊥
IsOrdinary _ = Unit {0}

end_ordinary : (e : End) → IsOrdinary (status_of e)
end_ordinary (Done v) = tt
end_ordinary (Trapped k p id) = tt
end_ordinary (SpentAt p id) = tt

pub answer_ordinary : (asked : Asked) (bytes : List ℕ) (status : Status) (text : List ℕ) → Answers asked bytes status text → IsOrdinary status
answer_ordinary asked bytes status text (refused r f e t) = subst IsOrdinary (sym e) tt
answer_ordinary asked bytes status text (checked tree a q e t) = subst IsOrdinary (sym e) tt
answer_ordinary asked bytes status text (shown tree a q e t) = subst IsOrdinary (sym e) tt
answer_ordinary asked bytes status text (unready tree steps trace a q n e t) = subst IsOrdinary (sym e) tt
answer_ordinary asked bytes status text (ran tree steps trace node a q r n e t) = subst IsOrdinary (sym e) (end_ordinary (end_of node))

pub no_source_fault : (status result : Status) (text : List ℕ) (a b : Option (List ℕ)) (f g : ℕ) → IsOrdinary status → Delivers status result text a b f g → result ≡ SourceFault → ⊥
no_source_fault status result text a b f g o (inl h) e = subst IsOrdinary (sym h.0 ∙ e) o
no_source_fault status result text a b f g o (inr h) e = let k = h.0 in cc

pub no_want : (status result : Status) (text : List ℕ) (a b : Option (List ℕ)) (f g : ℕ) → IsOrdinary status → Delivers status result text a b f g → result ≡ NoMemory → ⊥
no_want status result text a b f g o (inl h) e = subst IsOrdinary (sym h.0 ∙ e) o
no_want status result text a b f g o (inr h) e = let k = h.0 in cc

pub no_usage : (status result : Status) (text : List ℕ) (a b : Option (List ℕ)) (f g : ℕ) → IsOrdinary status → Delivers status result text a b f g → result ≡ Usage → ⊥
no_usage status result text a b f g o (inl h) e = subst IsOrdinary (sym h.0 ∙ e) o
no_usage status result text a b f g o (inr h) e = let k = h.0 in cc

pub sink_rose : (status result : Status) (text : List ℕ) (a b : Option (List ℕ)) (f g : ℕ) → IsOrdinary status → Delivers status result text a b f g → result ≡ SinkFault → Rose f g
sink_rose status result text a b f g o (inl h) e = absurd (subst IsOrdinary (sym h.0 ∙ e) o)
sink_rose status result text a b f g o (inr h) e = h.1

pub if_answered : (result : Status) (P : Type 0) → P → IfAnswered result P
if_answered SourceFault P h = tt
if_answered NoMemory P h = tt
if_answered _ P h = h

pub unless : (result : Status) (P : Type 0) → P → UnlessNoMemory result P
unless NoMemory P h = tt
unless _ P h = h

-- the words are taken in one way, so that this order is any that they ask for
pub answered : (words : List Word) (one : Asked) (files : List ℕ → Option (List ℕ)) (left : Option (List ℕ)) (bytes : List ℕ) (status result : Status) (text : List ℕ) (a b : Option (List ℕ)) (f g : ℕ) →
    ((other : Asked) → Taken words other → other ≡ one) → ReadsFile (files (file_of one)) left bytes → Answers one bytes status text → Delivers status result text a b f g →
    (asked : Asked) → Taken words asked → IfAnswered result (AnswersFile asked (files (file_of asked)) left result a b f g)
answered words one files left bytes status result text a b f g only read answers delivered asked taken =
    subst (λ asked. IfAnswered result (AnswersFile asked (files (file_of asked)) left result a b f g)) (sym (only asked taken))
    (if_answered result (AnswersFile one (files (file_of one)) left result a b f g) (record { bytes = bytes; read = read; status = status; text = text; answers = answers; delivered = delivered }))

pub not_runs : (b : Bool) (P : Type 0) → (IsTrue b ↔ P) → b ≡ false → P → ⊥
not_runs true P h e p = absurd (cc)
not_runs false P h e p = let q : false ≡ true = h.1 p in cc

pub does_run : (b : Bool) (P : Type 0) → (IsTrue b ↔ P) → b ≡ true → P
does_run true P h e = h.0 refl
does_run false P h e = absurd (cc)
