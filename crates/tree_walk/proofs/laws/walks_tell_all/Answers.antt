use Rattle.tree_walk.proofs.Rightly.{shown_rightly, shown_standing, tells_rightly, whole_rightly}
use Rattle.tree_walk.proofs.laws.walks_tell_all.Goals as goal

pub returns : goal.returns
returns c = record {
  tells = tells_rightly;
  whole = λ d limits commit right whole. whole_rightly d limits right commit whole;
  shows = λ d commit p n. (shown_rightly d commit p n, shown_standing d commit p n);
}
