use Rattle.gr_model.proofs.Common.{ℕ, List, Option, None, Some, Ok, ap, inl, refl, subst, map, Keeps}
use Rattle.std.specs.Fn.{FnReturnsAt}
use Rattle.gr_arguments.specs.Asked.{Asked, ask, inquiry_of, perform, refuse}
use Rattle.gr_arguments.proofs.OneAsked.{words_ask_once}
use Rattle.gr_command.specs.Answers.{IsDone}
use Rattle.gr_command.proofs.AnswerLemmas.{help_of, no_memory_to_do, only_memory, wrong_of}
use Rattle.gr_command.proofs.execute.execute.Goals as goal

stays : (contents : Option (List ℕ)) → Keeps contents contents
stays None = tt
stays (Some bytes) = refl

pub returns-in-Ok-Perform-clause-does : goal.returns-in-Ok-Perform-clause-does
returns-in-Ok-Perform-clause-does g c = λ a asks.
    subst
    (λ (b : Asked). IsDone g.T.Read.remaining (FnReturnsAt g.O.Fn c.args.opener) (g.R.Read.remaining c.args.reader.now) (g.W.Write.contents c.args.writer.now) (g.W.Write.contents c.perform.new.writer) (g.E.Write.contents c.args.errors.now) (g.E.Write.contents c.args.errors.now) c.perform.result b)
    (words_ask_once (map g.S.AsStr.text c.args.words.now) (perform c.in-Ok-Perform.task) a (rw c.in-Ok-Perform.field-0-is at c.in-Ok-Perform.ensures.asks) asks) (c.perform.ensures, stays (g.E.Write.contents c.args.errors.now))

pub returns-in-Ok-Ask-clause-does : goal.returns-in-Ok-Ask-clause-does
returns-in-Ok-Ask-clause-does g c = λ a asks.
    subst
    (λ (b : Asked). IsDone g.T.Read.remaining (FnReturnsAt g.O.Fn c.args.opener) (g.R.Read.remaining c.args.reader.now) (g.W.Write.contents c.args.writer.now) (g.W.Write.contents c.ask.new.writer) (g.E.Write.contents c.args.errors.now) (g.E.Write.contents c.args.errors.now) c.ask.result b)
    (words_ask_once (map g.S.AsStr.text c.args.words.now) (ask (inquiry_of c.in-Ok-Ask.arguments)) a (rw c.in-Ok-Ask.field-0-is at c.in-Ok-Ask.ensures.asks) asks) (c.ask.ensures, stays (g.E.Write.contents c.args.errors.now))

pub returns-in-Ok-Refuse-clause-does : goal.returns-in-Ok-Refuse-clause-does
returns-in-Ok-Refuse-clause-does g c = λ a asks.
    subst
    (λ (b : Asked). IsDone g.T.Read.remaining (FnReturnsAt g.O.Fn c.args.opener) (g.R.Read.remaining c.args.reader.now) (g.W.Write.contents c.args.writer.now) (g.W.Write.contents c.args.writer.now) (g.E.Write.contents c.args.errors.now) (g.E.Write.contents c.refuse.new.errors) (Ok c.refuse.result) b)
    (words_ask_once (map g.S.AsStr.text c.args.words.now) (refuse c.in-Ok-Refuse.why) a (rw c.in-Ok-Refuse.field-0-is at c.in-Ok-Refuse.ensures.asks) asks) (inl (ap Ok c.refuse.ensures), stays (g.W.Write.contents c.args.writer.now))

pub returns-in-Err-clause-does : goal.returns-in-Err-clause-does
returns-in-Err-clause-does g c = λ a asks.
    let memory = c.write_usage.ensures.memory (only_memory _ _ asks.taken c.in-Err.ensures.fails) in
    rw memory.0 (no_memory_to_do g.T.Read.remaining (FnReturnsAt g.O.Fn c.args.opener) (g.R.Read.remaining c.args.reader.now) _ _ _ _ memory.1 memory.2 a)

pub returns-in-Err-clause-wrong : goal.returns-in-Err-clause-wrong
returns-in-Err-clause-wrong g c = wrong_of _ _ _ _ _ (λ e. let m = c.write_usage.ensures.memory e in (m.0, m.1)) c.in-Err.ensures.fails c.write_usage.ensures.wrong

pub returns-in-Err-clause-help : goal.returns-in-Err-clause-help
returns-in-Err-clause-help g c = help_of _ _ _ _ _ (λ e. let m = c.write_usage.ensures.memory e in (m.0, m.1)) c.in-Err.ensures.fails c.write_usage.ensures.help
