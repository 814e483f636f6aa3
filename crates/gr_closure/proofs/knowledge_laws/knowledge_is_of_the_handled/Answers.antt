use Rattle.gr_closure.proofs.HandledKnowledge.{known_handled, own_known, seen_handled}
use Rattle.gr_closure.proofs.knowledge_laws.knowledge_is_of_the_handled.Goals as goal

pub returns : goal.returns
returns c = record {
  known = λ s m order i d lawful known. known_handled s m order lawful i d known;
  seen = λ s m order e d lawful h seen. seen_handled s m order lawful e d h seen;
  own = λ s m order i d item h. own_known s m order i d item h;
}
