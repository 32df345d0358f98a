-- What a caller has to know where a task may begin.
use Rattle.std.proofs.Common.{◌≡◌, inl, sym, subst, ◌∷◌, [], List, ℕ, arith, length, nat_lt, Bool, true, false, Some, None, if◌then◌else◌, ◌+◌, ◌∙◌, append-nil}
use Rattle.std.specs.Prelude.{Contains}
use Rattle.ost_types.specs.Path.{Path}
use Rattle.fs_trait.specs.View.{View}
use Rattle.fs_trait.specs.Seen.{Seen, shows, MayBe}
use Rattle.fs_trait.specs.Change.{LeadsTo}
use Rattle.repo_layout.specs.RefName.{IsRefName, parts_of}
use Rattle.repo_layout.specs.Paths.{heads, ref_path}
use Rattle.ref_room.specs.declared.way.Leg.TheVariants.{Make, Over}
use Rattle.ref_room.specs.Way as way
use Rattle.ref_room.specs.Clearing as clearing
use Rattle.ref_room.specs.Clearing.{IsLeaf}
use Rattle.ref_room.proofs.Names.{way_to-none, some_parts}
use Rattle.ref_room.proofs.Lists.{one, Contains-one}
use Rattle.ref_room.proofs.WayData.{leg_at-of}

begun_here : (name : List ℕ) (b : Bool) (p : Path) (s : Seen) → way.here_in (if b then Make else Over) (record { name = name; reached = 0; leg = if b then Make else Over }) p s
begun_here name true p s = tt
begun_here name false p s = tt

-- Folders lead to that of all refs.
pub way_begins : (name : List ℕ) (v : View) → IsRefName name → ((p : Path) (s : Seen) → MayBe v p s → LeadsTo heads p s) → way.Needs (way.begun name) v
way_begins name v named leads = record {
  named = named;
  place = leg_at-of 0 name (some_parts name);
  meets = record {
    firm = subst (λ f. (p : Path) (s : Seen) → MayBe v p s → LeadsTo f p s) (sym (way_to-none name)) leads;
    here = λ p. begun_here name (nat_lt (0 + 1) (length (parts_of name))) p (shows v.now p);
  };
}

nothing_in : {P : Type 0} (p : Path) → Contains [] p → P
nothing_in p (k, less, is) = absurd (omega (arith, less))

-- No leaf stands at the ref's path.
pub clearing_begins : (name : List ℕ) (v : View) → IsRefName name → (IsLeaf (shows v.now (ref_path name)) → ⊥) → clearing.Needs (clearing.begun name) v
clearing_begins name v named leaf = record {
  named = named;
  pending = λ p has. ([], Contains-one p (ref_path name) has ∙ sym (append-nil (ref_path name)));
  folders = λ p has. nothing_in p has;
  least = λ other is. let n : None ≡ Some other = is in cc;
  here = λ p. record {
    known = λ f x is has. nothing_in f has;
    own = λ is. (inl (subst (Contains (ref_path name ∷ [])) (sym is) (one (ref_path name))), subst (λ q. IsLeaf (shows v.now q) → ⊥) (sym is) leaf);
    folder = λ has. nothing_in p has;
    least = λ other is at. let n : None ≡ Some other = is in cc;
  };
}
