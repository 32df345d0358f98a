-- A file may be staged where no folder stands at its path.
use Rattle.std.proofs.Common.{◌≡◌, true, sym, subst}
use Rattle.ost_types.specs.Path.{Path, is_in}
use Rattle.fs_trait.specs.View.{View}
use Rattle.fs_trait.specs.Seen.{shows, IsDirectory, NotDirectory}
use Rattle.staging.specs.declared.phase.Phase.TheVariants.{Clear}
use Rattle.staging.specs.Draft.{Draft}
use Rattle.staging.specs.Steps.{IsPlaced, firm_in, here_in, Needs}

pub needs_new : (t : Draft) (v : View) → t.phase ≡ Clear → IsPlaced t.stage → NotDirectory (shows v.now t.stage) → ((p : Path) → is_in p t.stage ≡ true → IsDirectory (shows v.now p)) → Needs t v
needs_new t v is placed leaf parents = record {
  placed = placed;
  inode = 0;
  meets = record {
    firm = λ p s may. subst (λ ph. firm_in ph t 0 p s) (sym is) tt;
    here = λ p. subst (λ ph. here_in ph t 0 p (shows v.now p)) (sym is) ((λ e. subst (λ q. NotDirectory (shows v.now q)) (sym e) leaf), parents p);
  };
}
