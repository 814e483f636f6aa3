-- What the sequencer's thread begins with, and what it leaves.
-- Source: docs/QUEUES.md, "The work queue", and docs/MODEL.md, "The world".
use Rattle.std.specs.Prelude.{◌≡◌, ℕ, List, length, Option, IfSome}
use Rattle.atomic_table.specs.Seated.{TableId}
use Rattle.gr_model.specs.Prelude.{IsConfig, Settings, IsReportButRaces, WholeReport}
use Rattle.gr_order.specs.Sequences.{Sequence}
use Rattle.gr_route.specs.IntakeSeats.{Taker}
use Rattle.gr_route.specs.WorkSeats.{Giver}
use Rattle.gr_sequencer_thread.specs.Feeds.{AreStopped, Feed, IsWhole, intakes_of, works_of}

-- the configuration of a run, the items of each work-group, its intake queues and its workers' queues
pub record Line : Type 0 where
  pub config : Settings
  pub sizes : List ℕ
  pub intakes : List TableId
  pub works : List TableId

-- what the thread begins with
pub record Begin (A : Type 0) : Type 0 where
  pub config : Settings
  pub sizes : List ℕ
  pub takers : List Taker
  pub givers : List (Giver A)

-- what it leaves; the report is there unless memory ran out, and has no races yet
pub record End (A : Type 0) : Type 0 where
  pub config : Settings
  pub sizes : List ℕ
  pub takers : List Taker
  pub givers : List (Giver A)
  pub report : Option WholeReport

abbrev pub begin_line : {A : Type 0} → Begin A → Line
begin_line b = record { config = b.config; sizes = b.sizes; intakes = intakes_of b.takers; works = works_of b.givers }

abbrev pub feed_line : {A : Type 0} → Feed A → Line
feed_line f = record { config = f.config; sizes = f.sizes; intakes = intakes_of f.takers; works = works_of f.givers }

abbrev pub end_line : {A : Type 0} → End A → Line
end_line e = record { config = e.config; sizes = e.sizes; intakes = intakes_of e.takers; works = works_of e.givers }

-- all of these streams was taken, handled and passed on, and the report is theirs, without its races
pub record IsFound {A : Type 0} (config : Settings) (sizes : List ℕ) (takers : List Taker) (givers : List (Giver A)) (report : WholeReport) : Type 0 where
  pub sequence : Sequence
  pub sizes_are : sequence.taken.sizes ≡ sizes
  pub whole : IsWhole config sequence takers givers
  pub report_is : IsReportButRaces sequence.taken report

pub record IsEnd {A : Type 0} (e : End A) : Type 0 where
  pub config : IsConfig e.config
  pub queues : length e.takers ≡ e.config.queues
  pub worker_count : length e.givers ≡ e.config.workers
  pub stopped : AreStopped e.givers
  pub found : IfSome e.report (IsFound e.config e.sizes e.takers e.givers)
