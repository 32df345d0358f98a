-- From what a field stands for to what it names, and from the fields to the command.
use Rattle.std.proofs.Common.{◌≡◌, ◌≢◌, ℕ, cond, List, [], ◌∷◌, length, get_or, map, codes, Option, Some, None, IsSome, IfSome, MatchOption, Result, Ok, Err, IfOk, ◌↔◌, refl, sym, ◌∙◌, ap, subst, rules}
use Rattle.ost_types.specs.Path.{Path, same_name}
use Rattle.ost_types.specs.Csum.{hex_of}
use Rattle.ost_types.specs.Text.{IsName}
use Rattle.repo_layout.specs.RefName.{IsRefName}
use Rattle.repo_layout.specs.RefFile.{IsSum}
use Rattle.script.specs.Field.{Gives, IsField, IsNameField, IsNoField, IsPathField}
use Rattle.script.specs.Words.{AreRevName, AreRevPath, IsBranch, IsCommit, spelled, keyword_of, HasFields, IsCommitLine, IsCommand, IsWritten, AreNoCommand}
use Rattle.script.specs.declared.command.Rev.{Rev}
use Rattle.script.specs.declared.command.Command.{Command}
use Rattle.script.specs.declared.command.Command.TheVariants as command
use Rattle.script.specs.declared.command.CommitLine.{CommitLine}
use Rattle.script.specs.declared.command.Written.{Written}
use Rattle.script.specs.declared.command.Written.TheVariants as written
use Rattle.script.specs.declared.words.Keyword.{Keyword}
use Rattle.script.specs.declared.words.Keyword.TheVariants.{Refs, Status, RevParse, Log, Ls, Cat, Checkout, Reset, DropRef, Prune, Cleanup, Commit}
use Rattle.script.proofs.Slices.{two_of}
use Rattle.script.proofs.Spelling.{field_one}

pub both_ok : {X Y : Type 0} (P Q R : X → Type 0) (r : Result X Y) → ((x : X) → P x → Q x → R x) → IfOk r P → IfOk r Q → IfOk r R
both_ok P Q R (Ok x) make p q = make x p q
both_ok P Q R (Err e) make p q = tt

pub some_of : {X : Type 0} (N : Type 0) (P : X → Type 0) (o : Option X) (x : X) → MatchOption o N P → o ≡ Some x → P x
some_of N P o x holds is = subst (λ o. MatchOption o N P) is holds

no_value : IsSome {T = List ℕ} None → ⊥
no_value some = search rules

pub branch_from : (field value : List ℕ) (o : Option (List ℕ)) → IsField field value → (IsSome o ↔ IsRefName value) → IfSome o (λ n. n ≡ value)
    → MatchOption o ((name : List ℕ) → ¬ (IsBranch field name)) (IsBranch field)
branch_from field value None is exact same = λ name b. no_value (exact.1 (subst IsRefName (field_one field name value b.spelled is) b.ref))
branch_from field value (Some n) is exact same = record { spelled = subst (IsField field) (sym same) is; ref = subst IsRefName (sym same) (exact.0 (search rules)) }

pub name_from : (field value : List ℕ) (o : Option (List ℕ)) → IsField field value → (IsSome o ↔ IsName value) → IfSome o (λ n. n ≡ value) → Gives (IsNameField field) o
name_from field value None is exact same = λ name b. no_value (exact.1 (subst IsName (field_one field name value b.spelled is) b.whole))
name_from field value (Some n) is exact same = record { spelled = subst (IsField field) (sym same) is; whole = subst IsName (sym same) (exact.0 (search rules)) }

-- what was read of a value of 32 bytes in digits
pub sum_from : (field value : List ℕ) (o : Option (List ℕ)) → IsField field value → IfSome o (λ s. hex_of s ≡ value) → IfSome o IsSum → ((sum : List ℕ) → IsSum sum → value ≡ hex_of sum → o ≡ Some sum)
    → MatchOption o ((sum : List ℕ) → ¬ (IsCommit field sum)) (IsCommit field)
sum_from field value None is text whole back = λ sum c. no_value_of sum (back sum c.whole (field_one field value (hex_of sum) is c.spelled))
  where
    no_value_of : (sum : List ℕ) → None ≡ Some sum → ⊥
    no_value_of sum e = cc
sum_from field value (Some s) is text whole back = record { spelled = subst (IsField field) (sym text) is; whole = whole }

pub no_sum : (field : List ℕ) → IsNoField field → (sum : List ℕ) → ¬ (IsCommit field sum)
no_sum field none sum c = none (hex_of sum) c.spelled

-- two fields, of which the second is no path
pub no_rev_path : {V : Type 0} (now : V → List ℕ) (fs : List V) (b : V) → length fs ≡ 2 → ((path : Path) → ¬ (IsPathField (now (get_or fs 1 b)) path)) → (rev : Rev) (path : Path) → ¬ (AreRevPath (map now fs) rev path)
no_rev_path now fs b two none rev path are =
    let same : are.0 ∷ are.1 ∷ [] ≡ now (get_or fs 0 b) ∷ now (get_or fs 1 b) ∷ [] = sym are.2 ∙ two_of now fs b b two in
    let second : are.1 ≡ now (get_or fs 1 b) = cc in
    none path (subst (λ f. IsPathField f path) second are.4)

-- two fields, of which the second is no name
pub no_rev_name : {V : Type 0} (now : V → List ℕ) (fs : List V) (b : V) → length fs ≡ 2 → ((name : List ℕ) → ¬ (IsNameField (now (get_or fs 1 b)) name)) → (rev : Rev) (name : List ℕ) → ¬ (AreRevName (map now fs) rev name)
no_rev_name now fs b two none rev name are =
    let same : are.0 ∷ are.1 ∷ [] ≡ now (get_or fs 0 b) ∷ now (get_or fs 1 b) ∷ [] = sym are.2 ∙ two_of now fs b b two in
    let second : are.1 ≡ now (get_or fs 1 b) = cc in
    none name (subst (λ f. IsNameField f name) second are.4)

keywords : List Keyword
keywords = Refs ∷ Status ∷ RevParse ∷ Log ∷ Ls ∷ Cat ∷ Checkout ∷ Reset ∷ DropRef ∷ Prune ∷ Cleanup ∷ Commit ∷ []

-- the first of these keywords with this spelling
first_spelled : List ℕ → List Keyword → Option Keyword
first_spelled word [] = None
first_spelled word (k ∷ ks) = cond (same_name (spelled k) word) (Some k) (first_spelled word ks)

found : (k : Keyword) → first_spelled (spelled k) keywords ≡ Some k
unfolding keywords first_spelled
found Refs = refl
found Status = refl
found RevParse = refl
found Log = refl
found Ls = refl
found Cat = refl
found Checkout = refl
found Reset = refl
found DropRef = refl
found Prune = refl
found Cleanup = refl
found Commit = refl

pub spelled_one : (j k : Keyword) → spelled j ≡ spelled k → j ≡ k
spelled_one j k e = let same : Some j ≡ Some k = sym (found j) ∙ ap (λ w. first_spelled w keywords) e ∙ found k in cc

-- the word that closes a lane is no keyword
pub end_word : (k : Keyword) → codes "end" ≡ spelled k → ⊥
unfolding keywords first_spelled
end_word k e = let none : None ≡ Some k = ap (λ w. first_spelled w keywords) e ∙ found k in cc

-- they are the fields of no command with this keyword
abbrev NoneHas : Keyword → List (List ℕ) → Type 0
NoneHas Refs fields = ¬ (HasFields command.Refs fields)
NoneHas Status fields = ¬ (HasFields command.Status fields)
NoneHas RevParse fields = (rev : Rev) → ¬ (HasFields (command.RevParse rev) fields)
NoneHas Log fields = (rev : Rev) → ¬ (HasFields (command.Log rev) fields)
NoneHas Ls fields = (rev : Rev) (path : Path) → ¬ (HasFields (command.Ls rev path) fields)
NoneHas Cat fields = (rev : Rev) (path : Path) → ¬ (HasFields (command.Cat rev path) fields)
NoneHas Checkout fields = (rev : Rev) (name : List ℕ) → ¬ (HasFields (command.Checkout rev name) fields)
NoneHas Reset fields = (branch commit : List ℕ) → ¬ (HasFields (command.Reset branch commit) fields)
NoneHas DropRef fields = (branch : List ℕ) → ¬ (HasFields (command.DropRef branch) fields)
NoneHas Prune fields = (depth : ℕ) → ¬ (HasFields (command.Prune depth) fields)
NoneHas Cleanup fields = ¬ (HasFields command.Cleanup fields)
NoneHas Commit fields = (line : CommitLine) → ¬ (IsCommitLine fields line)

not_had : (c : Command) (fields : List (List ℕ)) → NoneHas (keyword_of c) fields → ¬ (HasFields c fields)
not_had command.Refs fields none = none
not_had command.Status fields none = none
not_had (command.RevParse rev) fields none = none rev
not_had (command.Log rev) fields none = none rev
not_had (command.Ls rev path) fields none = none rev path
not_had (command.Cat rev path) fields none = none rev path
not_had (command.Checkout rev name) fields none = none rev name
not_had (command.Reset branch commit) fields none = none branch commit
not_had (command.DropRef branch) fields none = none branch
not_had (command.Prune depth) fields none = none depth
not_had command.Cleanup fields none = none
not_had (command.Commit branch tree subject body time) fields none = λ h. h

module _ (words fields : List (List ℕ)) (word : List ℕ) (line : words ≡ word ∷ fields) where
  same_word : (j k : Keyword) (more : List (List ℕ)) → word ≡ spelled k → words ≡ spelled j ∷ more → (j ≡ k) × (more ≡ fields)
  same_word j k more is e =
      let whole : word ∷ fields ≡ spelled j ∷ more = sym line ∙ e in
      let w : word ≡ spelled j = cc in
      let rest : more ≡ fields = cc in
      (spelled_one j k (sym w ∙ is), rest)

  no_command : (k : Keyword) → word ≡ spelled k → NoneHas k fields → AreNoCommand words
  no_command k is none (written.Command c) it =
      let same = same_word (keyword_of c) k it.fields is it.line in
      not_had c fields (subst (λ j. NoneHas j fields) (sym same.0) none) (subst (HasFields c) same.1 it.has)
  no_command k is none (written.Commit c) it =
      let same = same_word Commit k it.0 is it.1 in
      subst (λ j. NoneHas j fields) (sym same.0) none c (subst (λ f. IsCommitLine f c) same.1 it.2)

  is_command : (c : Command) → word ≡ spelled (keyword_of c) → HasFields c fields → IsCommand words c
  is_command c is has = record { fields = fields; line = line ∙ ap (λ w. w ∷ fields) is; has = has }

  pub refs_from : word ≡ spelled Refs → (o : Option Written)
      → MatchOption o (NoneHas Refs fields) (λ w. (w ≡ written.Command command.Refs) × HasFields command.Refs fields)
      → MatchOption o (AreNoCommand words) (IsWritten words)
  refs_from is None none = no_command Refs is none
  refs_from is (Some w) it = subst (IsWritten words) (sym it.0) (is_command command.Refs is it.1)

  pub status_from : word ≡ spelled Status → (o : Option Written)
      → MatchOption o (NoneHas Status fields) (λ w. (w ≡ written.Command command.Status) × HasFields command.Status fields)
      → MatchOption o (AreNoCommand words) (IsWritten words)
  status_from is None none = no_command Status is none
  status_from is (Some w) it = subst (IsWritten words) (sym it.0) (is_command command.Status is it.1)

  pub rev_parse_from : word ≡ spelled RevParse → (o : Option Written)
      → MatchOption o (NoneHas RevParse fields) (λ w. (rev : Rev) × (w ≡ written.Command (command.RevParse rev)) × HasFields (command.RevParse rev) fields)
      → MatchOption o (AreNoCommand words) (IsWritten words)
  rev_parse_from is None none = no_command RevParse is none
  rev_parse_from is (Some w) it = subst (IsWritten words) (sym it.1) (is_command (command.RevParse it.0) is it.2)

  pub log_from : word ≡ spelled Log → (o : Option Written)
      → MatchOption o (NoneHas Log fields) (λ w. (rev : Rev) × (w ≡ written.Command (command.Log rev)) × HasFields (command.Log rev) fields)
      → MatchOption o (AreNoCommand words) (IsWritten words)
  log_from is None none = no_command Log is none
  log_from is (Some w) it = subst (IsWritten words) (sym it.1) (is_command (command.Log it.0) is it.2)

  pub ls_from : word ≡ spelled Ls → (o : Option Written)
      → MatchOption o (NoneHas Ls fields) (λ w. (rev : Rev) × (path : Path) × (w ≡ written.Command (command.Ls rev path)) × HasFields (command.Ls rev path) fields)
      → MatchOption o (AreNoCommand words) (IsWritten words)
  ls_from is None none = no_command Ls is none
  ls_from is (Some w) it = subst (IsWritten words) (sym it.2) (is_command (command.Ls it.0 it.1) is it.3)

  pub cat_from : word ≡ spelled Cat → (o : Option Written)
      → MatchOption o (NoneHas Cat fields) (λ w. (rev : Rev) × (path : Path) × (w ≡ written.Command (command.Cat rev path)) × HasFields (command.Cat rev path) fields)
      → MatchOption o (AreNoCommand words) (IsWritten words)
  cat_from is None none = no_command Cat is none
  cat_from is (Some w) it = subst (IsWritten words) (sym it.2) (is_command (command.Cat it.0 it.1) is it.3)

  pub checkout_from : word ≡ spelled Checkout → (o : Option Written)
      → MatchOption o (NoneHas Checkout fields) (λ w. (rev : Rev) × (name : List ℕ) × (w ≡ written.Command (command.Checkout rev name)) × HasFields (command.Checkout rev name) fields)
      → MatchOption o (AreNoCommand words) (IsWritten words)
  checkout_from is None none = no_command Checkout is none
  checkout_from is (Some w) it = subst (IsWritten words) (sym it.2) (is_command (command.Checkout it.0 it.1) is it.3)

  pub reset_from : word ≡ spelled Reset → (o : Option Written)
      → MatchOption o (NoneHas Reset fields) (λ w. (branch commit : List ℕ) × (w ≡ written.Command (command.Reset branch commit)) × HasFields (command.Reset branch commit) fields)
      → MatchOption o (AreNoCommand words) (IsWritten words)
  reset_from is None none = no_command Reset is none
  reset_from is (Some w) it = subst (IsWritten words) (sym it.2) (is_command (command.Reset it.0 it.1) is it.3)

  pub drop_from : word ≡ spelled DropRef → (o : Option Written)
      → MatchOption o (NoneHas DropRef fields) (λ w. (branch : List ℕ) × (w ≡ written.Command (command.DropRef branch)) × HasFields (command.DropRef branch) fields)
      → MatchOption o (AreNoCommand words) (IsWritten words)
  drop_from is None none = no_command DropRef is none
  drop_from is (Some w) it = subst (IsWritten words) (sym it.1) (is_command (command.DropRef it.0) is it.2)

  pub prune_from : word ≡ spelled Prune → (o : Option Written)
      → MatchOption o (NoneHas Prune fields) (λ w. (depth : ℕ) × (w ≡ written.Command (command.Prune depth)) × HasFields (command.Prune depth) fields)
      → MatchOption o (AreNoCommand words) (IsWritten words)
  prune_from is None none = no_command Prune is none
  prune_from is (Some w) it = subst (IsWritten words) (sym it.1) (is_command (command.Prune it.0) is it.2)

  pub cleanup_from : word ≡ spelled Cleanup → (o : Option Written)
      → MatchOption o (NoneHas Cleanup fields) (λ w. (w ≡ written.Command command.Cleanup) × HasFields command.Cleanup fields)
      → MatchOption o (AreNoCommand words) (IsWritten words)
  cleanup_from is None none = no_command Cleanup is none
  cleanup_from is (Some w) it = subst (IsWritten words) (sym it.0) (is_command command.Cleanup is it.1)

  pub commit_from : word ≡ spelled Commit → (o : Option Written)
      → MatchOption o (NoneHas Commit fields) (λ w. (c : CommitLine) × (w ≡ written.Commit c) × IsCommitLine fields c)
      → MatchOption o (AreNoCommand words) (IsWritten words)
  commit_from is None none = no_command Commit is none
  commit_from is (Some w) it = subst (IsWritten words) (sym it.1) (fields, line ∙ ap (λ w. w ∷ fields) is, it.2)

  pub none_from : ((k : Keyword) → word ≡ spelled k → ⊥) → AreNoCommand words
  none_from none (written.Command c) it = let e : word ∷ fields ≡ spelled (keyword_of c) ∷ it.fields = sym line ∙ it.line in none (keyword_of c) cc
  none_from none (written.Commit c) it = let e : word ∷ fields ≡ spelled Commit ∷ it.0 = sym line ∙ it.1 in none Commit cc

  pub no_word : (o : Option Keyword) → MatchOption o ((k : Keyword) → word ≢ spelled k) (λ k. word ≡ spelled k) → o ≡ None → AreNoCommand words
  no_word o holds is = none_from (subst (λ o. MatchOption o ((k : Keyword) → word ≢ spelled k) (λ k. word ≡ spelled k)) is holds)
