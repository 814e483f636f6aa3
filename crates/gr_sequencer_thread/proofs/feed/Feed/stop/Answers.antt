use Rattle.gr_model.proofs.Common.{◌≡◌, ◌∙◌, List, [], Option, None, Some, false, ap, sym, subst, option_map, IfSome, OnSome}
use Rattle.gr_clocks.specs.ClockedAccess.{ClockedAccess}
use Rattle.gr_model.specs.Prelude.{IsReportButRaces, WholeReport}
use Rattle.gr_steps.specs.Steps.{IsAtRest}
use Rattle.gr_report.specs.declared.report.Report.{Report}
use Rattle.gr_report.specs.Whole.{whole_of}
use Rattle.gr_route.specs.WorkSeats.{Giver}
use Rattle.gr_sequencer_thread.specs.Ends.{IsFound, feed_line}
use Rattle.gr_sequencer_thread.specs.Feeds.{ArePassedOn, Feed, IsOver, given_of, intakes_of}
use Rattle.gr_sequencer_thread.proofs.Changes.{as_many}
use Rattle.gr_sequencer_thread.proofs.StepLemmas.{split_whole}
use Rattle.gr_sequencer_thread.proofs.TakeLemmas.{all_taken}
use Rattle.gr_sequencer_thread.proofs.feed.Feed.stop.Goals as goal

found_is : {Z : Type 0} (o : Option (Report Z)) (F : Type 0) (Q P : WholeReport → Type 0) → OnSome o F → IfSome o (λ r. Q (whole_of r)) → (F → (w : WholeReport) → Q w → P w) → IfSome (option_map whole_of o) P
found_is None F Q P f q h = tt
found_is (Some r) F Q P f q h = h f (whole_of r) q

pub invariant_of-result : goal.invariant_of-result
invariant_of-result g c =
    let config = c.self.inside.config in
    let seq = c.self.inside.sequencer in
    let takers = c.self.inside.inlets.items in
    let was = c.self.inside.outlets.items in
    let now = c.stop_all.new.outlets.items in
    record {
      config = c.self.invariant.config;
      queues = c.self.invariant.queues;
      worker_count = as_many (λ (u : Giver g.row.A.Denot). u.queue) now was c.stop_all.ensures.queues ∙ c.self.invariant.worker_count;
      stopped = c.stop_all.ensures.stopped;
      found = found_is c.findings-report.result (c.self.inside.failed ≡ false) (IsReportButRaces seq.taken) (IsFound config c.self.inside.shape takers now) c.findings-report.ensures.failed c.findings-report.ensures.report
          (λ f w is.
          let good = c.self.invariant.good f in
          let over = subst (λ (u : Feed g.row.A.Denot). IsOver u) (sym c.self.view_is) (c.requires (sym (ap (λ (u : Feed g.row.A.Denot). u.failed) c.self.view_is) ∙ f)) in
          record {
            sequence = seq;
            sizes_are = good.same;
            whole = record {
              sequence_is = good.sequence;
              complete = over.complete;
              done = over.done;
              taken = all_taken config seq.taken c.self.inside.backlogs.items takers good.popped over.taken;
              passed = subst (λ (gs : List (List ClockedAccess)). ArePassedOn config seq gs []) (sym c.stop_all.ensures.given) (good.passed.0, good.passed.1, split_whole config.workers (given_of was) good.passed.0 c.self.inside.on_way over.passed good.passed.2);
            };
            report_is = is;
          });
    }

pub findings-report-requires : goal.findings-report-requires
findings-report-requires g c = λ f.
    subst (λ (u : Feed g.row.A.Denot). IsAtRest u.sequence.taken u.sequence.handled) (sym c.self.view_is)
    (c.requires (sym (ap (λ (u : Feed g.row.A.Denot). u.failed) c.self.view_is) ∙ f)).done.rest

pub returns : goal.returns
returns g c =
    (λ i. record { config = c.self.inside.config; sizes = c.self.inside.shape; intakes = intakes_of c.self.inside.inlets.items; works = c.stop_all.ensures.queues i })
    ∙ ap (λ (u : Feed g.row.A.Denot). feed_line u) c.self.view_is
