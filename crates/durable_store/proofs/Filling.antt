-- How many objects a disk has at least, where objects stay and come.
use Rattle.std.proofs.Common.{◌≡◌, ◌⊎◌, inl, inr, ⊎_elim, ◌≤◌, ◌+◌, ◌-◌, ℕ, Bool, true, false, List, [], ◌∷◌, ◌++◌, length, length-append, Contains, refl, sym, ◌∙◌, ap, subst, arith}
use Rattle.std.specs.List.{filter}
use Rattle.ost_types.specs.declared.object.ObjName.{ObjName}
use Rattle.fs_trait.specs.declared.types.Value.TheVariants.{Absent}
use Rattle.fs_trait.specs.View.{Disk}
use Rattle.repo_model.specs.Objects.{path_of}
use Rattle.store_check.specs.Listing.{AreAll, IsThere}
use Rattle.tree_build.proofs.Lists.{Among, among_contained, contained_among}
use Rattle.std.specs.List.Sorted.{IsStrictlySortedBy}
use Rattle.obj_store.specs.Listing.{name_cmp}
use Rattle.durable_store.specs.Full.{HasAsMany}
use Rattle.durable_store.proofs.Names.{contains_kept, few_among, is_other, kept_ascends, kept_contains, not_other, other_or, with_name}

-- all of them are as many as any number that isn't greater
pub all_many : (d : Disk) (names : List ObjName) (least : ℕ) → AreAll d names → least ≤ length names → HasAsMany d least
all_many d names least all le = record { names = names; ascending = all.ascending; here = all.here; enough = le }

pub fewer_many : (d : Disk) (most least : ℕ) → least ≤ most → HasAsMany d most → HasAsMany d least
fewer_many d most least le has = record { names = has.names; ascending = has.ascending; here = has.here; enough = omega (arith, le, has.enough) }

module _ (d e : Disk) (stays : (name : ObjName) → IsThere d name → IsThere e name) where
  -- objects stay
  pub many_stay : (least : ℕ) → HasAsMany d least → HasAsMany e least
  many_stay least has = record { names = has.names; ascending = has.ascending; here = λ name among. stays name (has.here name among); enough = has.enough }

  -- and one comes where nothing stood
  pub many_more : (least : ℕ) (name : ObjName) → d.at (path_of name) ≡ Absent → IsThere e name → HasAsMany d least → HasAsMany e (least + 1)
  many_more least name none there has = ⊎_elim
      (λ among. absurd ((has.here name (among_contained name has.names among)).there none))
      (λ more. record {
        names = more.0;
        ascending = more.1.ascending;
        here = λ other among. ⊎_elim
            (λ old. stays other (has.here other (among_contained other has.names old)))
            (λ new. subst (IsThere e) new there)
            (more.1.only other (contained_among other more.0 among));
        enough = omega (arith, more.1.longer, has.enough);
      })
      (with_name name has.names has.ascending)

-- All objects stay but one, which may go: there is at most one fewer.
module _ (d e : Disk) (one : ObjName) (stays : (name : ObjName) → IsThere d name → IsThere e name ⊎ (name ≡ one)) where
  abbrev rest : List ObjName → List ObjName
  rest names = filter (is_other one) names

  no_fewer : (names : List ObjName) → IsStrictlySortedBy name_cmp names → length names ≤ length (rest names) + 1
  no_fewer names ascends = ⊎_elim
      (λ among. omega (
        arith,
        few_among (rest names) names (kept_ascends (is_other one) names ascends) ascends (λ a has. ⊎_elim
            (λ same. subst (λ x. Among x (rest names)) (sym same) among)
            (λ other. contained_among a (rest names) (kept_contains (is_other one) a names (among_contained a names has) other))
            (other_or one a)),
      ))
      (λ more. omega (
        arith,
        more.1.longer,
        few_among more.0 names more.1.ascending ascends (λ a has. ⊎_elim
            (λ same. subst (λ x. Among x more.0) (sym same) more.1.has)
            (λ other. more.1.had a (contained_among a (rest names) (kept_contains (is_other one) a names (among_contained a names has) other)))
            (other_or one a)),
      ))
      (with_name one (rest names) (kept_ascends (is_other one) names ascends))

  pub many_less : (least : ℕ) → HasAsMany d least → HasAsMany e (least - 1)
  many_less least has = record {
    names = rest has.names;
    ascending = kept_ascends (is_other one) has.names has.ascending;
    here = λ name among. (let k = contains_kept (is_other one) name has.names among in ⊎_elim
        (λ there. there)
        (λ same. absurd (not_other one (subst (λ x. is_other one x ≡ true) same k.1)))
        (stays name (has.here name k.0)));
    enough = omega (arith, has.enough, no_fewer has.names has.ascending);
  }

  -- and one comes where nothing stood
  pub many_swap : (least : ℕ) (name : ObjName) → d.at (path_of name) ≡ Absent → IsThere e name → HasAsMany d least → HasAsMany e (least - 1 + 1)
  unfolding many_less
  many_swap least name none there has = ⊎_elim
      (λ among. absurd ((has.here name (contains_kept (is_other one) name has.names (among_contained name (rest has.names) among)).0).there none))
      (λ more. record {
        names = more.0;
        ascending = more.1.ascending;
        here = λ other among. ⊎_elim
            (λ old. (many_less least has).here other (among_contained other (rest has.names) old))
            (λ new. subst (IsThere e) new there)
            (more.1.only other (contained_among other more.0 among));
        enough = omega (arith, more.1.longer, has.enough, no_fewer has.names has.ascending);
      })
      (with_name name (rest has.names) (kept_ascends (is_other one) has.names has.ascending))
