-- From what every value keeps to the headline, and the beginning.
use Rattle.std.proofs.Common.{◌≡◌, ◌≤◌, ℕ, subst, arith, length, take, length-append, Option, Some, None}
use Rattle.std.proofs.Math.Seq.{take-append_seam}
use Rattle.fs_trait.specs.View.{Disk, View}
use Rattle.fs_trait.specs.Image.{IsTree}
use Rattle.fs_trait.specs.Change.{Left}
use Rattle.rely_guarantee.specs.declared.books.Base.{Base}
use Rattle.rely_guarantee.specs.State.{RefOf, after, events_of, stored, opening_state}
use Rattle.rely_guarantee.specs.Disks.{Logical}
use Rattle.rely_guarantee.specs.SystemInvariant.{Stands, SystemInvariant}
use Rattle.rely_guarantee.specs.Headline.{Has, CrashFits, Headline, state_at}
use Rattle.fs_trait.proofs.Images.{Image-now}
use Rattle.rely_guarantee.specs.declared.books.Pending.{Pending}
use Rattle.rely_guarantee.proofs.Goods.{has_ref, fits_all}

pub headline : {F : Type 0} (view : F → Option View) (clock spare : F → ℕ) (was : F → ℕ → View → Type 0) (base : Base F) → SystemInvariant view clock spare was base → (v : View) → view base.fs ≡ Some v → IsTree v.now → Headline clock was base v
headline view clock spare was base sound v told tree = record { crash = crash; now = now; run = (sound.stands v told).run; moments = sound.ordered.ascends }
  where
    crash : (t : ℕ) (d : Disk) → base.books.opened ≤ t → Left (was base.fs) t d → CrashFits base t d
    crash t d from left =
        let f = (sound.crash v told).each t d from left in
        let e : take (length f.past) (stored base.books.history.items base.books.pending) ≡ f.past = rw (← f.split) (take-append_seam f.past f.rest) in
        let logical : Logical d (state_at base (length f.past)).refs = rw e f.shows in
        record {
          count = length f.past;
          has_acked = f.has_acked;
          within = rw (← f.split) (omega (arith, length-append f.past f.rest));
          has = record { sane = f.sane; logical = logical; refs = λ name. has_ref d name _ (logical (RefOf name)) };
        }

    now : base.books.pending ≡ None → Has v.now (after (events_of base.books.history.items) (opening_state base.books.start)).refs
    now none =
        let stands : Stands (opening_state base.books.start) base.books.history.items None v = subst (λ (o : Option Pending). Stands (opening_state base.books.start) base.books.history.items o v) none (sound.stands v told) in
        let f = fits_all (opening_state base.books.start) base.books.history.items v stands v.now (Image-now v tree) in
        record { sane = f.0; logical = f.1; refs = λ name. has_ref v.now name _ (f.1 (RefOf name)) }
