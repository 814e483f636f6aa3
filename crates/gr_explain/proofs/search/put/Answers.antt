use Rattle.gr_model.proofs.Common.{arith}
use Rattle.gr_shadow.specs.Lent.{lent_clocked}
use Rattle.gr_shadow.specs.Clashes.{event_of}
use Rattle.gr_explain.proofs.SearchLemmas.{put_behind, put_in_list}
use Rattle.gr_explain.proofs.search.put.Goals as goal

pub returns-in-Some : goal.returns-in-Some
returns-in-Some g c = grind (arith, put_in_list c.args.classes.now.items c.in-Some.place c.index_mut.result.now c.add.new.self (event_of (lent_clocked c.args.access.now)) c.args.access.now.class)

pub returns-in_ok-push-in-None : goal.returns-in_ok-push-in-None
returns-in_ok-push-in-None g c = rw c.in_ok-push-in-None.ensures.items (put_behind c.args.classes.now.items c.add-in-None.new.self (event_of (lent_clocked c.args.access.now)) c.args.access.now.class c.in_ok-add-in-None.ensures.class (rw c.new-seen.ensures at c.in_ok-add-in-None.ensures.events))
