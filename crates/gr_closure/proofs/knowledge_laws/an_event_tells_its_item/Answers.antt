use Rattle.gr_closure.proofs.EventKnowledge.{handled_knows, handled_sees, others_know_after_handle}
use Rattle.gr_closure.proofs.knowledge_laws.an_event_tells_its_item.Goals as goal

pub returns : goal.returns
returns c = record {
  sees = λ s m old new e d lawful handles. handled_sees s m old new e lawful handles d;
  knows = λ s m old new e d lawful handles. handled_knows s m old new e lawful handles d;
  others = λ s m old new e i d lawful handles other. others_know_after_handle s m old new e lawful handles i d other;
}
