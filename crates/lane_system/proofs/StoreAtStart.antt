-- At the beginning of a system its store is good.
use Rattle.std.proofs.Common.{◌≡◌, ◌∙◌, ◌<◌, ◌^◌, inr, ℕ, subst, arith, List, Contains, length, None, Some}
use Rattle.std.specs.Prelude.{min}
use Rattle.std.proofs.Math.Nat.{min-eq_left}
use Rattle.ost_types.specs.declared.limits.Limits.{Limits}
use Rattle.ost_types.specs.declared.object.ObjName.{ObjName}
use Rattle.fs_trait.specs.View.{View}
use Rattle.fs_trait.specs.Image.{IsTree}
use Rattle.store_check.specs.Listing.{AreAll}
use Rattle.rely_guarantee.specs.declared.books.Base.{Base}
use Rattle.rely_guarantee.specs.Opening.{IsOpening}
use Rattle.rely_guarantee.specs.State.{first}
use Rattle.sys_open.specs.Opened as opening
use Rattle.sys_open.proofs.Goods.{config_of, store_of}
use Rattle.durable_store.specs.Full.{HasAsMany}
use Rattle.durable_store.proofs.Filling.{all_many}
use Rattle.durable_store.proofs.Starts.{few_all, stands_begin}
use Rattle.command.specs.Meaning.{Meaning}
use Rattle.lane_system.specs.declared.lane.Lane.{Lane}
use Rattle.lane_system.specs.Family.{FsSpec}
use Rattle.rely_guarantee.proofs.Lasting.{none_out}
use Rattle.lane_system.proofs.Removals.{none_swept}
use Rattle.lane_system.specs.Storing.{AreStored, IsConfigured, WasBrought}

pub stored_first : {F T W A : Type 0} (f : FsSpec F) (m : Meaning W A) (limits : Limits) (base : Base F) (lanes : List (Lane T W A)) (refs : List (List ℕ × List ℕ)) (objects : List ObjName) (count : ℕ) (w : View) → f.view base.fs ≡ Some w → IsTree w.now
    → IsOpening (first refs) w → opening.KeepsGood f.view f.was base.fs base.books.opened limits refs → AreAll w.now objects → count ≡ min (length objects) 4294967295 → limits.objects < 2 ^ 32 → base.books.exclusive ≡ None → AreStored f m (record { base = base; lanes = lanes; limits = limits; objects = count }) w
stored_first f m limits base lanes refs objects count w told tree opens good all is wide alone =
    let few = few_all w.now objects limits.objects all (good.store w told).few in
    let same : count ≡ length objects = is ∙ min-eq_left (omega (arith, few, wide)) in
    let brings = WasBrought m (record { base = base; lanes = lanes; limits = limits; objects = count }) in
    record {
      names = objects;
      counted = λ live. omega (arith, same);
      swept = λ live o has. absurd (none_out o (subst (λ (l : List ObjName). Contains l o) (none_swept base.books alone) has));
      narrow = wide;
      keeps = record {
        now = stands_begin (first refs) w limits objects opens tree (good.store w told) all brings IsConfigured (inr (good.config w told));
        few = few;
        since = λ t d from left.
            let good_then = (good.since w told t d from left).0 in
            let store = store_of limits d good_then in
            record { sound = store.sound; few = store.few; founded = store.founded; same = config_of limits d good_then; whole = λ alone. store.whole };
      };
    }

-- and as many objects stand as were counted
pub counted_first : (objects : List ObjName) (count : ℕ) (w : View) → AreAll w.now objects → count ≡ min (length objects) 4294967295 → HasAsMany w.now count
counted_first objects count w all is = all_many w.now objects count all (omega (arith, is))
