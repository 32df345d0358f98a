-- A step that publishes no list leaves what may boot.
use Rattle.std.proofs.Common.{◌≡◌, inl, inr, ◌∙◌, ℕ, ap, arith, refl, sym, subst, List, [], Contains, Some, None}
use Rattle.std.proofs.lemmas.List.{get_or-map, length-map}
use Rattle.ost_types.specs.declared.limits.Limits.{Limits}
use Rattle.ost_types.specs.declared.object.ObjName.{ObjName}
use Rattle.fs_trait.specs.Change.{Writes}
use Rattle.fs_trait.specs.View.{Disk, View}
use Rattle.boot_model.specs.declared.item.DepId.{DepId}
use Rattle.boot_read.specs.declared.row.BootRow.{BootRow}
use Rattle.durable_list.specs.Standing.{SparesList, ids_of}
use Rattle.durable_list.proofs.Standing.{stands_on}
use Rattle.durable_list.proofs.Swapping.{swap_on}
use Rattle.durable_list.proofs.Unwritten as list
use Rattle.durable_deployments.specs.Standing.{AreOwnSpared, AreStanding}
use Rattle.durable_deployments.proofs.Staying.{all_on}
use Rattle.durable_deployments.proofs.Unwritten as deployments
use Rattle.rely_guarantee.specs.Books.{Books, listed_in}
use Rattle.rely_guarantee.specs.Rely.{Interference}
use Rattle.rely_guarantee.specs.Removing.{next_of}
use Rattle.rely_guarantee.specs.SystemInvariant.{IsRelistedByHolder}
use Rattle.rely_guarantee.proofs.Lasting.{none_out}
use Rattle.command.specs.BootLaws.{BootLaws, IsTaken}
use Rattle.command.specs.Doing.{Doing}
use Rattle.command.specs.MayBoot.{Boots, BootsEither, MayBoot, Relists, coming_in}
use Rattle.command.specs.Since.{Since}
use Rattle.command.specs.Tasks.{TaskSpec}

deployed : (rows : List BootRow) (row : BootRow) → Contains rows row → Contains (ids_of rows) row.id
deployed rows row (k, less, is) = (k, omega (arith, less, length-map rows (λ (r : BootRow). r.id)), get_or-map (λ (r : BootRow). r.id) rows k row row.id less ∙ ap (λ (r : BootRow). r.id) is)

module _ {T W A : Type 0} (k : TaskSpec T) (d : Doing T W A) (laws : BootLaws k d) (since : Since) (c : W) (actor lane : ℕ) (t : T) (v w : View) (b b' : Books)
    (taken : IsTaken k d since c actor lane t v b) (not : ¬ (Relists (k.kind t))) (wrote : Writes (k.writes actor t v) v w) (does : Interference actor lane v b w b') (relists : IsRelistedByHolder b) (limits : Limits) where
  list_spared : (base : Disk) (rows : List BootRow) → MayBoot b v base rows → SparesList base rows v w
  list_spared base rows may = list.aside_spares base rows v w (k.writes actor t v) (λ p s writes way. laws.list since c actor lane t v b base rows p s taken not may writes way) wrote

  own_spared : (base : Disk) (rows : List BootRow) → MayBoot b v base rows → AreOwnSpared rows v w
  own_spared base rows may row among = deployments.aside_spares v w row.id row.bootcsum (k.writes actor t v) (λ p s writes way. laws.deployments since c actor lane t v b base rows row p s taken may among writes way) wrote

  -- the list that boots
  pub one_stays : (rows : List BootRow) → listed_in b ≡ ids_of rows → Boots limits rows v → Boots limits rows w
  one_stays rows listed boots =
      let may : MayBoot b v v.now rows = record { are = boots.list.are; listed = inl listed; now = λ none. refl; relists = relists } in
      let among : (row : BootRow) → Contains rows row → Contains (listed_in b) row.id = (λ row has. subst (λ (ids : List DepId). Contains ids row.id) (sym listed) (deployed rows row has)) in
      record {
        list = stands_on rows v w (list_spared v.now rows may) boots.list;
        deployments = all_on limits rows v w (deployments.act_spares_all limits rows v w b b' actor lane does among (own_spared v.now rows may) boots.deployments) boots.deployments;
      }

  -- where nothing is to be removed
  standing_stay : next_of b ≡ [] → (base : Disk) (rows : List BootRow) → MayBoot b v base rows → AreStanding limits rows v → AreStanding limits rows w
  standing_stay none base rows may stand =
      all_on limits rows v w
      (λ row among. deployments.act_spares_kept limits v w b b' actor lane row.id row.bootcsum does (λ o reached next. absurd (none_out o (subst (λ (l : List ObjName). Contains l o) none next))) (stand row among) (own_spared base rows may row among))
      stand

  -- one of two lists
  pub either_stays : (before after : List BootRow) → coming_in b ≡ Some (ids_of after) → listed_in b ≡ ids_of before → next_of b ≡ [] → BootsEither limits before after v → BootsEither limits before after w
  either_stays before after coming listed none x =
      let left : MayBoot b v x.old before = record { are = x.lists.left.are; listed = inl listed; now = λ nothing. absurd (let z : None ≡ Some (ids_of after) = sym nothing ∙ coming in cc); relists = relists } in
      let come : MayBoot b v x.new after = record { are = x.lists.come.are; listed = inr coming; now = λ nothing. absurd (let z : None ≡ Some (ids_of after) = sym nothing ∙ coming in cc); relists = relists } in
      record {
        link = x.link;
        old = x.old;
        new = x.new;
        lists = swap_on x.link x.old x.new before after v w x.lists (list_spared x.old before left) (list_spared x.new after come);
        left = standing_stay none x.old before left x.left;
        come = standing_stay none x.new after come x.come;
      }
