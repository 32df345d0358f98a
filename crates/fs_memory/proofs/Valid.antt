-- What the record of a call comes to.
use Rattle.std.proofs.Common.{◌≡◌, ◌≢◌, inl, inr, ℕ, ◌≤◌, refl, sym, ◌∙◌, ap, subst, List, [], ◌∷◌, ◌++◌, length, Bool, true, false, Option, Some, None, Result, Ok, Err, IfOk, IsErrOf}
use Rattle.fs_trait.specs.declared.types.FsErr.{FsErr}
use Rattle.fs_trait.specs.declared.types.FsErr.TheVariants.{Failed, Exists, Missing, NotFolder, NotEmpty, NoMemory}
use Rattle.fs_trait.specs.View.{View}
use Rattle.fs_trait.specs.Effect.{Fails, Changed}
use Rattle.memory_record.specs.declared.change.Change.{Change}
use Rattle.memory_record.specs.declared.change.Change.TheVariants.{Nothing}
use Rattle.memory_record.specs.Changes.{apply, view_of, IsSound, SoundSince}
use Rattle.memory_record.specs.Answer.{Refuses, IsAnswer}
use Rattle.memory_record.proofs.Applied.{apply_nothing}
use Rattle.memory_record.proofs.Moments.{sound_now, sound-Nothing}
use Rattle.memory_record.proofs.Records.{view_of-push}
use Rattle.fs_memory.specs.Recorded.{IsRecorded, Settles, Obeys, ObeysReading, IsTurn}

idle_after : (cs new : List Change) (e : Change) → e ≡ Nothing → new ≡ cs ++ e ∷ [] → Some (view_of new) ≡ Some (view_of cs)
idle_after cs new e idle pushed = ap Some (ap view_of pushed ∙ view_of-push cs e ∙ ap (λ k. apply k (view_of cs)) idle ∙ apply_nothing (view_of cs))

done_after : (cs new : List Change) (e c : Change) → e ≡ c → new ≡ cs ++ e ∷ [] → Some (view_of new) ≡ Some (apply c (view_of cs))
done_after cs new e c is pushed = ap Some (ap view_of pushed ∙ view_of-push cs e ∙ ap (λ k. apply k (view_of cs)) is)

-- a refusal is the call's
refused : (lacks : Bool) (refusal : Option FsErr) (v w : View) (e : FsErr) (new : Option View) → Refuses lacks refusal e → new ≡ Some v → Fails refusal v w e new
refused lacks refusal v w Failed new r is = absurd r
refused lacks refusal v w NoMemory new r is = is
refused lacks refusal v w Exists new r is = (r, is)
refused lacks refusal v w Missing new r is = (r, is)
refused lacks refusal v w NotFolder new r is = (r, is)
refused lacks refusal v w NotEmpty new r is = (r, is)

-- what the trait says of a call, from what the record came to
pub effect : (lacks : Bool) (cs new : List Change) (plan : Option Bool) (refusal : Option FsErr) (c : Change) (w : View) (change : Result Change FsErr) (result : Result (Unit {0}) FsErr)
    → IsAnswer lacks refusal (λ d. d ≡ c) change → IsRecorded cs plan change result new → apply c (view_of cs) ≡ w → Changed refusal (view_of cs) w result (Some (view_of new))
effect lacks cs new plan refusal c w change result answer (inr (same, is)) after = subst (λ r. Changed refusal (view_of cs) w r (Some (view_of new))) (sym is) (ap (λ l. Some (view_of l)) same)
effect lacks cs new plan refusal c w change result answer (inl (e, settles, pushed, held)) after = go plan change result answer settles
  where
    go : (plan : Option Bool) (change : Result Change FsErr) (result : Result (Unit {0}) FsErr) → IsAnswer lacks refusal (λ d. d ≡ c) change → Settles plan change e result → Changed refusal (view_of cs) w result (Some (view_of new))
    go None (Ok d) result answer s = subst (λ r. Changed refusal (view_of cs) w r (Some (view_of new))) (sym s.1) (answer.0, done_after cs new e c (s.0 ∙ answer.1) pushed ∙ ap Some after)
    go None (Err f) result answer s = subst (λ r. Changed refusal (view_of cs) w r (Some (view_of new))) (sym s.1) (refused lacks refusal (view_of cs) w f (Some (view_of new)) answer (idle_after cs new e s.0 pushed))
    go (Some true) (Ok d) result answer s = subst (λ r. Changed refusal (view_of cs) w r (Some (view_of new))) (sym s.1) (inr (answer.0, done_after cs new e c (s.0 ∙ answer.1) pushed ∙ ap Some after))
    go (Some false) (Ok d) result answer s = subst (λ r. Changed refusal (view_of cs) w r (Some (view_of new))) (sym s.1) (inl (idle_after cs new e s.0 pushed))
    go (Some true) (Err f) result answer s = subst (λ r. Changed refusal (view_of cs) w r (Some (view_of new))) (sym s.1) (inl (idle_after cs new e s.0 pushed))
    go (Some false) (Err f) result answer s = subst (λ r. Changed refusal (view_of cs) w r (Some (view_of new))) (sym s.1) (inl (idle_after cs new e s.0 pushed))

failed_inside : {T : Type 0} (e : FsErr) → IsErrOf {T = T} (Err e) Failed → e ≡ Failed
failed_inside e is = cc

ok_not_failed : {T : Type 0} (x : T) → IsErrOf {E = FsErr} (Ok x) Failed → ⊥
ok_not_failed x is = cc

not_failed : (lacks : Bool) (refusal : Option FsErr) (f : FsErr) → Refuses lacks refusal f → f ≡ Failed → ⊥
not_failed lacks refusal f r is = let h : Refuses lacks refusal Failed = subst (Refuses lacks refusal) is r in h

-- a call that is refused, and doesn't want for memory
planned_refused : (lacks : Bool) (refusal : Option FsErr) (v w new : View) (f : FsErr) → Refuses lacks refusal f → (f ≡ NoMemory → ⊥) → new ≡ v → Obeys {T = Unit {0}} (Some true) refusal v w (Err Failed) new
planned_refused lacks refusal v w new Failed r held is = absurd r
planned_refused lacks refusal v w new NoMemory r held is = absurd (held refl)
planned_refused lacks refusal v w new Exists r held is = subst (λ s. Obeys {T = Unit {0}} (Some true) s v w (Err Failed) new) (sym r) (inr (refl, is))
planned_refused lacks refusal v w new Missing r held is = subst (λ s. Obeys {T = Unit {0}} (Some true) s v w (Err Failed) new) (sym r) (inr (refl, is))
planned_refused lacks refusal v w new NotFolder r held is = subst (λ s. Obeys {T = Unit {0}} (Some true) s v w (Err Failed) new) (sym r) (inr (refl, is))
planned_refused lacks refusal v w new NotEmpty r held is = subst (λ s. Obeys {T = Unit {0}} (Some true) s v w (Err Failed) new) (sym r) (inr (refl, is))

inside_some : (v w : View) → Some v ≡ Some w → v ≡ w
inside_some v w e = cc

-- a call obeys the plan
pub obeys : (lacks : Bool) (cs new : List Change) (plan : Option Bool) (refusal : Option FsErr) (c : Change) (w : View) (change : Result Change FsErr) (result : Result (Unit {0}) FsErr)
    → IsAnswer lacks refusal (λ d. d ≡ c) change → IsRecorded cs plan change result new → apply c (view_of cs) ≡ w → Obeys plan refusal (view_of cs) w result (view_of new)
obeys lacks cs new plan refusal c w change result answer (inr (same, is)) after = subst (λ r. Obeys plan refusal (view_of cs) w r (view_of new)) (sym is) (go plan refusal)
  where
    go : (plan : Option Bool) (refusal : Option FsErr) → Obeys {T = Unit {0}} plan refusal (view_of cs) w (Err NoMemory) (view_of new)
    go None refusal = λ e. let n : NoMemory ≡ Failed = failed_inside {T = Unit {0}} NoMemory e in cc
    go (Some true) None = inl refl
    go (Some true) (Some e) = inl refl
    go (Some false) refusal = inl refl
obeys lacks cs new plan refusal c w change result answer (inl (e, settles, pushed, held)) after = go plan change answer settles held
  where
    go : (plan : Option Bool) (change : Result Change FsErr) → IsAnswer lacks refusal (λ d. d ≡ c) change → Settles plan change e result → change ≢ Err NoMemory → Obeys plan refusal (view_of cs) w result (view_of new)
    go None (Ok d) answer s held = subst (λ r. Obeys None refusal (view_of cs) w r (view_of new)) (sym s.1) (λ n. ok_not_failed {T = Unit {0}} tt n)
    go None (Err f) answer s held = subst (λ r. Obeys None refusal (view_of cs) w r (view_of new)) (sym s.1) (λ is. not_failed lacks refusal f answer (failed_inside {T = Unit {0}} f is))
    go (Some true) (Ok d) answer s held =
        subst (λ r. Obeys (Some true) refusal (view_of cs) w r (view_of new)) (sym s.1)
        (subst (λ t. Obeys {T = Unit {0}} (Some true) t (view_of cs) w (Err Failed) (view_of new)) (sym answer.0) (inr (refl, inside_some _ _ (done_after cs new e c (s.0 ∙ answer.1) pushed) ∙ after)))
    go (Some false) (Ok d) answer s held = subst (λ r. Obeys (Some false) refusal (view_of cs) w r (view_of new)) (sym s.1) (inr (refl, inside_some _ _ (idle_after cs new e s.0 pushed)))
    go (Some true) (Err f) answer s held = subst (λ r. Obeys (Some true) refusal (view_of cs) w r (view_of new)) (sym s.1) (planned_refused lacks refusal (view_of cs) w (view_of new) f answer (λ is. held (ap Err is)) (inside_some _ _ (idle_after cs new e s.0 pushed)))
    go (Some false) (Err f) answer s held = subst (λ r. Obeys (Some false) refusal (view_of cs) w r (view_of new)) (sym s.1) (inr (refl, inside_some _ _ (idle_after cs new e s.0 pushed)))

-- and so does a reading one
pub obeys_reading : {T : Type 0} (plan : Option Bool) (lacks : Bool) (refusal : Option FsErr) (P : T → Type 0) (r : Result T FsErr) (x : Unit {0}) → IsTurn plan (Ok x) → IsAnswer lacks refusal P r → ObeysReading plan r
obeys_reading None lacks refusal P (Ok y) x first answer = λ n. ok_not_failed y n
obeys_reading {T} None lacks refusal P (Err e) x first answer = λ f. not_failed lacks refusal e answer (failed_inside {T = T} e f)
obeys_reading (Some done) lacks refusal P r x first answer = absurd (ok_not_failed x first)

-- what is recorded of a call keeps the record sound
pub settled_sound : (cs : List Change) (b : ℕ) → b ≤ length cs → SoundSince b cs → (plan : Option Bool) (change : Result Change FsErr) (c : Change) (r : Result (Unit {0}) FsErr) → Settles plan change c r → IfOk change (λ d. IsSound (cs ++ d ∷ [])) → IsSound (cs ++ c ∷ [])
settled_sound cs b begun sound plan change c r = go plan change
  where
    idle : c ≡ Nothing → IsSound (cs ++ c ∷ [])
    idle is = subst (λ d. IsSound (cs ++ d ∷ [])) (sym is) (sound-Nothing cs (sound_now b cs begun sound))

    go : (plan : Option Bool) (change : Result Change FsErr) → Settles plan change c r → IfOk change (λ d. IsSound (cs ++ d ∷ [])) → IsSound (cs ++ c ∷ [])
    go None (Ok d) s all = subst (λ d. IsSound (cs ++ d ∷ [])) (sym s.0) all
    go None (Err e) s all = idle s.0
    go (Some true) (Ok d) s all = subst (λ d. IsSound (cs ++ d ∷ [])) (sym s.0) all
    go (Some false) (Ok d) s all = idle s.0
    go (Some true) (Err e) s all = idle s.0
    go (Some false) (Err e) s all = idle s.0

pub if_answer : (lacks : Bool) (r : Result Change FsErr) (refusal : Option FsErr) (c : Change) (P : Change → Type 0) → IsAnswer lacks refusal (λ d. d ≡ c) r → (refusal ≡ None → P c) → IfOk r P
if_answer lacks (Ok d) refusal c P answer h = subst P (sym answer.1) (h answer.0)
if_answer lacks (Err e) refusal c P answer h = tt

pub told : (cs : List Change) (v : View) (P : View → Type 0) → P (view_of cs) → Some (view_of cs) ≡ Some v → P v
told cs v P h is = let e : view_of cs ≡ v = cc in subst P e h
