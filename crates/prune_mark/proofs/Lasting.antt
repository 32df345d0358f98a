-- What is known goes on to be so where the paths of objects show the same.
use Rattle.std.proofs.Common.{◌≡◌, inl, inr, ⊎_elim, ℕ, ◌<◌, List, refl, sym, ◌∙◌, ap, arith}
use Rattle.std.specs.Prelude.{Contains}
use Rattle.ost_types.specs.declared.object.ObjName.{ObjName}
use Rattle.fs_trait.specs.Seen.{seen}
use Rattle.fs_trait.specs.View.{Disk}
use Rattle.fs_trait.proofs.Facts.{vacant_absent}
use Rattle.repo_model.specs.Objects.{Stores, object_in, path_of}
use Rattle.repo_model.proofs.Named.{IsSum-named}
use Rattle.reach.specs.Reach.{IsIn}
use Rattle.reach.specs.Lines.{IsParent}
use Rattle.reach.specs.Marking.{Nears}
use Rattle.reach.proofs.Lining.{line_depth, line_up, reachable_up}
use Rattle.reach.proofs.Reaching.{refers_where}
use Rattle.store_check.specs.Listing.{AreAll}
use Rattle.prune_mark.specs.declared.links.Near.{Near}
use Rattle.prune_mark.specs.Lasting.{ShowSameObjects}
use Rattle.prune_mark.specs.Marking.{Knows, MarksAll, State, WaitsAt, WasFound}

one_way : (d e : Disk) → ShowSameObjects d e → (o : ObjName) (b : List ℕ) → Stores d o b → Stores e o b
one_way d e same o b s = record { there = ap (object_in o.kind) (same o (IsSum-named o b s.named)) ∙ s.there; named = s.named }

module _ (d e : Disk) (same : ShowSameObjects d e) where
  to : (o : ObjName) (b : List ℕ) → Stores d o b → Stores e o b
  to = one_way d e same

  back : (o : ObjName) (b : List ℕ) → Stores e o b → Stores d o b
  back = one_way e d (λ o sum. sym (same o sum))

  is_to : (o : ObjName) → IsIn (Stores d) o → IsIn (Stores e) o
  is_to o is = (is.0, to o is.0 is.1)

  is_back : (o : ObjName) → IsIn (Stores e) o → IsIn (Stores d) o
  is_back o is = (is.0, back o is.0 is.1)

  parent_back : (commit parent : List ℕ) → IsParent (Stores e) commit parent → IsParent (Stores d) commit parent
  parent_back commit parent par = record {
    parts = par.parts;
    has = record { bytes = par.has.bytes; stored = back _ par.has.bytes par.has.stored; reads = par.has.reads };
    is = par.is;
    there = is_back _ par.there;
  }

  pub names_last : (names : List ObjName) → AreAll d names → AreAll e names
  names_last names are = record {
    ascending = are.ascending;
    here = λ name has. record {
      sum = (are.here name has).sum;
      there = λ absent. (are.here name has).there (vacant_absent d (path_of name) (sym (same name (are.here name has).sum) ∙ ap (seen e) absent));
    };
    all = λ name is. are.all name (record { sum = is.sum; there = λ absent. is.there (vacant_absent e (path_of name) (same name is.sum ∙ ap (seen d) absent)) });
  }

  module _ (roots : List ObjName) (m : State) where
    nears_last : Nears (Stores d) (Contains roots) m.depth (WasFound d m.found) (WaitsAt d m.found m.next) → Nears (Stores e) (Contains roots) m.depth (WasFound e m.found) (WaitsAt e m.found m.next)
    nears_last n = record {
      right = λ k commit w. (let line = n.right k commit (w.0, is_back _ w.1) in line_up (Stores d) (Stores e) (Contains roots) (Contains roots) m.depth m.depth (λ o r. r) to k commit (line_depth (Stores d) (Contains roots) m.depth k commit line) line);
      near = λ commit root is. ((n.near commit root (is_back _ is)).0, is);
      onward = λ k commit parent w nearer par. ⊎_elim
          (λ waits. inl (waits.0, is_to _ waits.1))
          (λ found. inr (found.0, found.1, (found.2.0, is_to _ found.2.1)))
          (n.onward k commit parent (w.0, is_back _ w.1) nearer (parent_back commit parent par));
    }

    pub known_last : Knows d roots m → Knows e roots m
    known_last known = record {
      names_are = names_last m.names known.names_are;
      nears = nears_last known.nears;
      line = known.line;
      right = λ o marked is. reachable_up (Stores d) (Stores e) (Contains roots) (Contains roots) m.depth m.depth (λ o r. r) to (omega arith) o (known.right o marked (is_back o is));
      begins = known.begins;
      onward = λ o next marked refers among. known.onward o next marked (refers_where (Stores e) (Stores d) o next (λ b. back o b) refers) among;
      found_marked = known.found_marked;
      marked_found = known.marked_found;
      pending_marked = known.pending_marked;
    }

    pub marks_last : MarksAll d roots m → MarksAll e roots m
    marks_last all = record {
      exact = λ o is. (
        λ marked. reachable_up (Stores d) (Stores e) (Contains roots) (Contains roots) m.depth m.depth (λ o r. r) to (omega arith) o ((all.exact o (is_back o is)).0 marked),
        λ reached. (all.exact o (is_back o is)).1 (reachable_up (Stores e) (Stores d) (Contains roots) (Contains roots) m.depth m.depth (λ o r. r) back (omega arith) o reached),
      );
      begins = all.begins;
      onward = λ o next marked refers among. all.onward o next marked (refers_where (Stores e) (Stores d) o next (λ b. back o b) refers) among;
    }
