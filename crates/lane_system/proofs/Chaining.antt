-- No act keeps all, and acts behind acts keep what both keep.
use Rattle.std.proofs.Common.{◌≡◌, ℕ, zero, suc, arith, refl, sym, ◌∙◌, ap, ◌++◌, List, [], ◌∷◌, append-nil, append_assoc, length, map, set, subst, Option, Some}
use Rattle.std.proofs.lemmas.List.{length-map}
use Rattle.fs_trait.specs.Image.{Told}
use Rattle.fs_trait.specs.View.{View}
use Rattle.command.specs.declared.ended.Ended.{Ended}
use Rattle.lane_system.specs.declared.ask.Ask.{Ask}
use Rattle.lane_system.specs.declared.ask.Ask.TheVariants as ask
use Rattle.lane_system.specs.declared.lane.Lane.{Lane}
use Rattle.lane_system.specs.Booked.{Acted, IsLater, Moves, commands_of}
use Rattle.lane_system.specs.Family.{Family, FsSpec}
use Rattle.lane_system.specs.Lanes.{IsAt}
use Rattle.lane_system.specs.Preserves.{Preserves}
use Rattle.lane_system.specs.System.{System}
use Rattle.lane_system.proofs.Family.{FsLaws}

pub later_refl : {F T W A : Type 0} (s : System F T W A) → IsLater s s
later_refl s = (refl, refl, [], sym (append-nil s.base.books.history.items), refl)

pub later_then : {F T W A : Type 0} (a b c : System F T W A) → IsLater a b → IsLater b c → IsLater a c
later_then a b c ab bc = (bc.0 ∙ ab.0, bc.1 ∙ ab.1, ab.2 ++ bc.2, bc.3 ∙ ap (λ h. h ++ bc.2) ab.3 ∙ append_assoc a.base.books.history.items ab.2 bc.2, bc.4 ∙ ab.4)

-- another element in which this is the same
map_set : {X Y : Type 0} (g : X → Y) (xs : List X) (i : ℕ) (x y : X) → IsAt xs i x → g y ≡ g x → map g (set xs i y) ≡ map g xs
map_set g [] i x y at same = refl
map_set g (z ∷ xs) zero x y at same = ap (λ k. k ∷ map g xs) (same ∙ ap g (sym at.1))
map_set g (z ∷ xs) (suc i) x y at same = ap (λ k. g z ∷ k) (map_set g xs i x y (omega (arith, at.0), at.1) same)

-- an act goes on from what was there, and leaves the commands
module _ {F T W A : Type 0} (Tells : Lane T W A → Ended A → Type 0) (s new : System F T W A) (n : ℕ) where
  moved_commands : (l l' : Lane T W A) → Moves s new n l l' → commands_of new ≡ commands_of s
  moved_commands l l' m = ap (map (λ (x : Lane T W A). x.words.items)) m.now ∙ map_set (λ (x : Lane T W A). x.words.items) s.lanes n l l' m.at (ap (λ v. v.items) m.words)

  pub acted_later : (x : Ask) → Acted Tells s new n x → IsLater s new
  acted_later ask.More acted = acted.2.later
  acted_later ask.Blocked acted = subst (IsLater s) (sym acted.1) (later_refl s)
  acted_later ask.Ended acted = subst (IsLater s) (sym acted.1) (later_refl s)
  acted_later (ask.Done lane command) acted = acted.3.later

  pub acted_commands : (x : Ask) → Acted Tells s new n x → commands_of new ≡ commands_of s
  acted_commands ask.More acted = moved_commands acted.0 acted.1 acted.2
  acted_commands ask.Blocked acted = ap (λ y. commands_of y) acted.1
  acted_commands ask.Ended acted = ap (λ y. commands_of y) acted.1
  acted_commands (ask.Done lane command) acted = moved_commands acted.0 acted.1 acted.3

-- lanes with the same commands are as many
pub lanes_same : {F T W A : Type 0} (s new : System F T W A) → commands_of new ≡ commands_of s → length new.lanes ≡ length s.lanes
lanes_same {T = T} {W = W} {A = A} s new same = sym (length-map new.lanes (λ (x : Lane T W A). x.words.items)) ∙ ap length same ∙ length-map s.lanes (λ (x : Lane T W A). x.words.items)

-- what is told of one view twice is told of it together
told_both : (o : Option View) (P Q : View → Type 0) → Told o P → Told o Q → Told o (λ w. P w × Q w)
told_both o P Q p q =
    let same : q.0 ≡ p.0 = (let e : Some q.0 ≡ Some p.0 = sym q.1 ∙ p.1 in cc) in
    (p.0, p.1, (p.2, subst Q same q.2))

module _ {F T W A : Type 0} (f : FsSpec F) (c : Family T W A) (fl : FsLaws f) where
  pub preserves_nothing : (s : System F T W A) → Preserves f c s s
  preserves_nothing s = record {
    lasts = λ opening v told is. (v, told, is);
    good = λ v told is. (v, told, is);
    caused = λ before is. is;
    inside = λ v told stored is. is;
    folders = λ opening v told is. (v, told, is);
    counted = λ v told is. (v, told, is);
    said = λ v told stored has is. is;
    stays = λ v told stored is. (v, told, is);
    remains = λ v told is. (v, told, is);
    founded = λ opening v told stored is. (v, told, is);
    known = λ opening v told is. (v, told, is);
    boots = λ rows v told is. (v, told, is);
  }

  pub preserves_then : (a b e : System F T W A) → Preserves f c a b → Preserves f c b e → Preserves f c a e
  preserves_then a b e x y = record {
    lasts = λ opening v told is. (let z = x.lasts opening v told is in y.lasts opening z.0 z.1 z.2);
    caused = λ before is. y.caused before (x.caused before is);
    good = λ v told is. (let z = x.good v told is in y.good z.0 z.1 z.2);
    inside = λ v told stored is. (let z = x.good v told stored in y.inside z.0 z.1 z.2 (x.inside v told stored is));
    folders = λ opening v told is. (let z = x.folders opening v told is in y.folders opening z.0 z.1 z.2);
    counted = λ v told is. (let z = x.counted v told is in y.counted z.0 z.1 z.2);
    said = λ v told stored has is. (let z = told_both (f.view b.base.fs) _ _ (x.good v told stored) (x.counted v told has) in y.said z.0 z.1 z.2.0 z.2.1 (x.said v told stored has is));
    stays = λ v told stored is. (let z = told_both (f.view b.base.fs) _ _ (x.good v told stored) (x.stays v told stored is) in y.stays z.0 z.1 z.2.0 z.2.1);
    remains = λ v told is. (let z = x.remains v told is in y.remains z.0 z.1 z.2);
    founded = λ opening v told stored is. (let z = told_both (f.view b.base.fs) _ _ (x.good v told stored) (x.founded opening v told stored is) in y.founded opening z.0 z.1 z.2.0 z.2.1);
    known = λ opening v told is. (let z = x.known opening v told is in y.known opening z.0 z.1 z.2);
    boots = λ rows v told is. (let z = x.boots rows v told is in y.boots rows z.0 z.1 z.2);
  }
