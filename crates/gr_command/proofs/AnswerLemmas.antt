-- The outcomes of a run.
use Rattle.gr_model.proofs.Common.{◌≡◌, ◌≢◌, ◌⊎◌, ℕ, Bool, true, false, List, [], Option, None, Some, Result, Ok, Err, ap, inl, inr, refl, subst, sym, IfOk, IfErr, IfSome, OnOk, Appends, Keeps}
use Rattle.clap.specs.Words.{IsAmong, Kinds}
use Rattle.clap.specs.declared.error.kind.ErrorKind.{ErrorKind}
use Rattle.clap.specs.declared.error.kind.ErrorKind.TheVariants.{OutOfMemory}
use Rattle.gr_arguments.specs.Asked.{Asked, Inquiry, ask, perform, refuse}
use Rattle.gr_arguments.specs.Commands.{AreHelp, AreWrong, IsHelp, IsWrongUsage}
use Rattle.gr_arguments.specs.declared.request.Query.{Query}
use Rattle.gr_arguments.specs.declared.request.Query.TheVariants as query
use Rattle.gr_arguments.specs.declared.request.Task.{Task}
use Rattle.gr_arguments.specs.declared.request.Task.TheVariants.{Replay, Pack, Dump, Upgrade}
use Rattle.gr_model.specs.Prelude.{WholeReport}
use Rattle.gr_record.specs.Prelude.{Fails, IsOutside}
use Rattle.gr_record.proofs.Outside.{at_any}
use Rattle.gr_places.specs.declared.sides_fault.SidesFault.{SidesFault}
use Rattle.gr_places.specs.declared.sides_fault.SidesFault.TheVariants.{Run}
use Rattle.gr_text.specs.Prelude.{Fault, packed, dumped, upgraded, text_before_fault}
use Rattle.gr_record.specs.declared.fault.Fault.TheVariants.{Write, Memory}
use Rattle.gr_replay.specs.Replays.{IsExact, IsExactOfEach, IsReplayFault, WritesPrefix}
use Rattle.gr_report.specs.Putting.{AppendsPrefix}
use Rattle.gr_report.specs.ReportText.{report_text}
use Rattle.gr_streams.specs.Streams.{IsRunFault, WritesPrefixOfEach}
use Rattle.gr_text.specs.Writes.{Writes}
use Rattle.gr_command.specs.Answers.{IsAnswerOf, IsAnswerTo, IsDone, IsPartialDump, IsUsageTold, WritesReportPrefix}
use Rattle.gr_command.specs.Outcomes.{HasStatus, IsOutcome, Outcome, of_run}
use Rattle.gr_command.specs.declared.status.TheConstants.{NOTHING, USAGE}

-- a run's faults are the same if they are so as faults with side files
of_same_run : {f g : Fault} → Run f ≡ Run g → f ≡ g
of_same_run same = cc

-- the outcome of a call whose faults are those of a run, and of one whose faults may be of side files; `view` shows the call's result
module _ {old new : Option (List ℕ)} {X R : Type 0} {Has : X → Type 0} {Ends : X → ℕ → Type 0} {Prefix : Type 0} (view : R → X) where
  pub run_outcome : {IsWhy : Fault → Type 0} (result : Result R Fault) (outcome : Outcome)
      → HasStatus (λ r. Ends (view r)) Run result outcome
      → IfOk result (λ r. Has (view r))
      → IfErr result IsWhy
      → IfErr result (λ f. f ≢ Write → Keeps old new)
      → IfErr result (λ f. f ≡ Write → Prefix)
      → IsOutcome old new outcome Has Ends (of_run IsWhy) Prefix
  run_outcome (Ok r) (Ok status) ends has why untouched prefix = record { done = (view r, has, ends); why = tt; untouched = tt; prefix = tt }
  run_outcome (Ok r) (Err f) none has why untouched prefix = absurd none
  run_outcome (Err f) outcome is has why untouched prefix =
      rw is (record { done = tt; why = why; untouched = λ h. untouched (λ e. h (ap Run e)); prefix = λ h. prefix (of_same_run h) })

  pub sides_outcome : {IsWhy : SidesFault → Type 0} (result : Result R SidesFault) (outcome : Outcome)
      → HasStatus (λ r. Ends (view r)) (λ f. f) result outcome
      → IfOk result (λ r. Has (view r))
      → IfErr result IsWhy
      → IfErr result (λ f. f ≢ Run Write → Keeps old new)
      → IfErr result (λ f. f ≡ Run Write → Prefix)
      → IsOutcome old new outcome Has Ends IsWhy Prefix
  sides_outcome (Ok r) (Ok status) ends has why untouched prefix = record { done = (view r, has, ends); why = tt; untouched = tt; prefix = tt }
  sides_outcome (Ok r) (Err f) none has why untouched prefix = absurd none
  sides_outcome (Err f) outcome is has why untouched prefix = rw is (record { done = tt; why = why; untouched = untouched; prefix = prefix })

-- two things hold of an outcome
pub both : {R F : Type 0} (P Q : R → Type 0) (outcome : Result R F) → IfOk outcome P → IfOk outcome Q → IfOk outcome (λ r. P r × Q r)
both P Q (Ok r) p q = (p, q)
both P Q (Err f) p q = tt

-- the outcome of a partial dump
module _ (input old new : Option (List ℕ)) where
  pub partial_of : (result : Result (Unit {0}) Fault) (outcome : Outcome)
      → HasStatus (λ done status. status ≡ NOTHING) Run result outcome
      → OnOk result (IfSome input (λ bytes. Writes (dumped bytes) old new))
      → IfErr result (λ f. f ≢ Write → IfSome input (λ bytes. Fails f (dumped bytes)))
      → IfErr result (λ f. f ≢ Write → ¬ IsOutside f → IfSome input (λ bytes. Appends old new (text_before_fault bytes)))
      → IfErr result (λ f. IsOutside f → Keeps old new)
      → IfErr result (λ f. f ≡ Write → IfSome input (λ bytes. AppendsPrefix old new (text_before_fault bytes)))
      → IsPartialDump input old new outcome
  partial_of (Ok done) (Ok status) ends whole why partial untouched prefix = record { whole = (ends, whole); part = tt }
  partial_of (Ok done) (Err f) none whole why partial untouched prefix = absurd none
  partial_of (Err f) outcome is whole why partial untouched prefix =
      rw is (record { whole = tt; part = record { why = why; partial = partial; untouched = untouched; prefix = prefix } })

-- ---- memory ran out before anything was done

module _ {T X : Type 0} (remaining : T → Option (List ℕ)) (Gives : List ℕ → Result T X → Type 0) (input old new old_errors new_errors : Option (List ℕ)) (kept : Keeps old new) (silent : Keeps old_errors new_errors) where
  no_memory_to_run : {Y : Type 0} {Has : Y → Type 0} {Ends : Y → ℕ → Type 0} {IsWhy : SidesFault → Type 0} {Prefix : Type 0} → IsWhy (Run Memory) → IsOutcome old new (Err (Run Memory)) Has Ends IsWhy Prefix
  no_memory_to_run why = record { done = tt; why = why; untouched = λ h. kept; prefix = λ h. let same : Memory ≡ Write = of_same_run h in absurd cc }

  no_memory_to_perform : (t : Task) → IsAnswerOf input old new (Err (Run Memory)) t
  no_memory_to_perform (Replay json) = no_memory_to_run (at_any input (λ bytes. IsReplayFault bytes Memory) (λ bytes. inl (inl tt)))
  no_memory_to_perform Pack = no_memory_to_run (λ _. at_any input (λ bytes. Fails Memory (packed bytes)) (λ bytes. tt))
  no_memory_to_perform (Dump true) =
      record { whole = tt; part = record { why = λ _. at_any input (λ bytes. Fails Memory (dumped bytes)) (λ bytes. tt); partial = λ _ inside. absurd (inside tt); untouched = λ _. kept; prefix = λ h. absurd cc } }
  no_memory_to_perform (Dump false) = no_memory_to_run (λ _. at_any input (λ bytes. Fails Memory (dumped bytes)) (λ bytes. tt))
  no_memory_to_perform Upgrade = no_memory_to_run (λ _. at_any input (λ bytes. Fails Memory (upgraded bytes)) (λ bytes. tt))

  no_memory_to_answer : (a : Inquiry) (q : Query) → IsAnswerTo remaining Gives old new (Err (Run Memory)) a q
  no_memory_to_answer a (query.Explain false w) = no_memory_to_run (inl (inl refl))
  no_memory_to_answer a q = no_memory_to_run (inl (inl refl))

  pub no_memory_to_do : (a : Asked) → IsDone remaining Gives input old new old_errors new_errors (Err (Run Memory)) a
  no_memory_to_do (perform t) = (no_memory_to_perform t, silent)
  no_memory_to_do (ask a) = (no_memory_to_answer a a.query, silent)
  no_memory_to_do (refuse why) = (inr refl, kept)

-- ---- a run whose report is JSON

-- what holds of all inputs holds of those that are known
pub of_any : (known : Option (List (List ℕ))) (P : List (List ℕ) → Type 0) → ((inputs : List (List ℕ)) → P inputs) → IfSome known P
of_any None P p = tt
of_any (Some inputs) P p = p inputs

-- that memory ran out, or the writer failed, is why a run has no report
pub run_fault : (inputs : List (List ℕ)) (f : Fault) → (f ≡ Memory) ⊎ (f ≡ Write) → IsRunFault inputs f
run_fault inputs f (inl memory) = subst (IsRunFault inputs) (sym memory) (inl (inl tt))
run_fault inputs f (inr writing) = subst (IsRunFault inputs) (sym writing) (inr (inr refl))

-- a prefix of the text of a report, where that is the report of the inputs
pub of_report : (json : Bool) (known : Option (List (List ℕ))) (old new : Option (List ℕ)) (r : WholeReport) → IfSome known (λ inputs. IsExactOfEach inputs r) → WritesReportPrefix json r old new → IfSome known (λ inputs. (s : WholeReport) × IsExactOfEach inputs s × WritesReportPrefix json s old new)
of_report json None old new r exact prefix = tt
of_report json (Some inputs) old new r exact prefix = (r, exact, prefix)

-- so does a prefix of the text of a report of the inputs
pub of_each : (known : Option (List (List ℕ))) (old new : Option (List ℕ)) → IfSome known (λ inputs. WritesPrefixOfEach inputs old new) → IfSome known (λ inputs. (r : WholeReport) × IsExactOfEach inputs r × WritesReportPrefix false r old new)
of_each None old new none = tt
of_each (Some inputs) old new (r, exact, prefix) = (r, exact, (report_text r, refl, prefix))

-- so does a prefix of the text of a report of the input
pub of_input : (input old new : Option (List ℕ)) → IfSome input (λ bytes. WritesPrefix bytes old new) → IfSome input (λ bytes. (r : WholeReport) × IsExact bytes r × WritesReportPrefix false r old new)
of_input None old new none = tt
of_input (Some bytes) old new (r, exact, prefix) = (r, exact, (report_text r, refl, prefix))

-- ---- words that are not taken

-- the outcome if the words are wrong, and if they ask for help; memory may run out in both cases
module _ (k : ErrorKind) (kinds : Kinds) (old new : Option (List ℕ)) (outcome : Outcome) (memory : k ≡ OutOfMemory → (outcome ≡ Err (Run Memory)) × Keeps old new)
    (among : (k ≡ OutOfMemory) ⊎ IsAmong k kinds) where
  pub wrong_of : (IsWrongUsage k → (outcome ≡ Ok USAGE) × Keeps old new) → AreWrong kinds → IsUsageTold old new outcome
  wrong_of wrong are = elim among [ inl e ↦ (inr (memory e).0, (memory e).1) | inr a ↦ (inl (wrong (are.1 k a)).0, (wrong (are.1 k a)).1) ]

  pub help_of : (IsHelp k → (outcome ≡ Ok NOTHING) ⊎ (outcome ≡ Err (Run Write))) → AreHelp kinds → (outcome ≡ Ok NOTHING) ⊎ (outcome ≡ Err (Run Memory)) ⊎ (outcome ≡ Err (Run Write))
  help_of help are = elim among [ inl e ↦ inr (inl (memory e).0) | inr a ↦ elim (help (are.1 k a)) [ inl n ↦ inl n | inr f ↦ inr (inr f) ] ]

-- words that the parser takes fail only if memory runs out
pub only_memory : (k : ErrorKind) (kinds : Kinds) → kinds ≡ [] → (k ≡ OutOfMemory) ⊎ IsAmong k kinds → k ≡ OutOfMemory
only_memory k kinds none (inl memory) = memory
only_memory k kinds none (inr among) = let nothing : IsAmong k [] = rw none at among in absurd nothing
