-- A commit as an object: metadata, parent, related objects, subject, body, time, and the names of its root's objects.
use Rattle.std.specs.Prelude.{◌≡◌, ◌≤◌, ◌<◌, ◌^◌, ◌⊎◌, ℕ, List, [], ◌∷◌, length, nat_le, if◌then◌else◌, Option, Some, None, Result, Ok, Err}
use Rattle.std.specs.Int.{w64, to_be_bytes}
use Rattle.gv_core.specs.Container.{container_form}
use Rattle.gv_core.specs.Layout.{text_bytes, nests, normal_form}
use Rattle.gv_core.specs.Tree.{Tree}
use Rattle.gv_core.specs.Tree as t
use Rattle.ost_forms.specs.declared.object_type.ObjectType.{ObjectType}
use Rattle.ost_forms.specs.declared.object_type.ObjectType.TheVariants as types
use Rattle.ost_forms.specs.declared.fault.ObjFault.{ObjFault}
use Rattle.ost_forms.specs.declared.fault.ObjFault.TheVariants.{NotNormal, BadSumLength, BadName, NotSorted, BadMode, TooLarge, NoMemory}
use Rattle.ost_forms.specs.TypeText.{type_text}
use Rattle.ost_forms.specs.Finds.{HasNone}
use Rattle.ost_forms.specs.Rows.{◌>>=◌}
use Rattle.ost_forms.specs.DirMeta.{object_limit}

pub record CommitParts : Type 0 where
  pub metadata : Tree
  -- no bytes where there is no parent
  pub parent : List ℕ
  pub related : Tree
  pub subject : List ℕ
  pub body : List ℕ
  pub time : ℕ
  pub tree : List ℕ
  pub meta : List ℕ

abbrev pub parent_bytes : Option (List ℕ) → List ℕ
parent_bytes None = []
parent_bytes (Some sum) = sum

-- a value that lies in one container more, so that its own nest at most 63 deep
abbrev pub inner_form : List ℕ → Tree → Option (List ℕ)
inner_form text v = if nat_le (nests v) 63 then normal_form text v else None

-- the type of the only member of a tuple of this type
abbrev pub only_of : ObjectType → ObjectType
only_of types.AloneMetadata = types.Metadata
only_of types.AloneRelated = types.Related
only_of t = t

abbrev pub IsAlone : ObjectType → Type 0
IsAlone whole = (whole ≡ types.AloneMetadata) ⊎ (whole ≡ types.AloneRelated)

-- a tuple of one
abbrev pub Holds : Tree → Tree → Type 0
Holds whole member = whole ≡ t.tuple (t.tree member t.no_trees)

abbrev pub metadata_form : Tree → Option (List ℕ)
metadata_form = inner_form (type_text types.Metadata)

abbrev pub related_form : Tree → Option (List ℕ)
related_form = inner_form (type_text types.Related)

-- the time has its high byte first
abbrev pub commit_form : CommitParts → Option (List ℕ)
commit_form c =
    metadata_form c.metadata >>= λ m. related_form c.related >>= λ r. text_bytes c.subject >>= λ s. text_bytes c.body >>= λ b.
    container_form (type_text types.Commit) (m ∷ c.parent ∷ r ∷ s ∷ b ∷ to_be_bytes w64 c.time ∷ c.tree ∷ c.meta ∷ [])

-- some commit has these bytes as its form
pub record IsNormalCommit (bytes : List ℕ) (c : CommitParts) : Type 0 where
  pub short : length bytes ≤ object_limit
  pub time : c.time < 2 ^ 64
  pub form : commit_form c ≡ Some bytes

-- each sum has 32 bytes, or is a parent that isn't there
pub record HasCommitSums (c : CommitParts) : Type 0 where
  pub parent : (length c.parent ≡ 0) ⊎ (length c.parent ≡ 32)
  pub tree : length c.tree ≡ 32
  pub meta : length c.meta ≡ 32

-- Each answer of the reader of such bytes. No two of the first four hold of one run of bytes.
abbrev pub ReadsCommit : {X : Type 0} → (X → CommitParts) → List ℕ → Result X ObjFault → Type 0
ReadsCommit see bytes (Ok x) = IsNormalCommit bytes (see x) × HasCommitSums (see x)
ReadsCommit see bytes (Err (TooLarge n)) = (n ≡ length bytes) × (object_limit < n)
ReadsCommit see bytes (Err NotNormal) = (length bytes ≤ object_limit) × HasNone commit_form bytes
ReadsCommit see bytes (Err BadSumLength) = (c : CommitParts) × IsNormalCommit bytes c × (HasCommitSums c → ⊥)
ReadsCommit see bytes (Err BadName) = ⊥
ReadsCommit see bytes (Err NotSorted) = ⊥
ReadsCommit see bytes (Err BadMode) = ⊥
ReadsCommit see bytes (Err NoMemory) = Unit {0}

-- what a commit has
abbrev pub parts_from : Tree → Option (List ℕ) → Tree → List ℕ → List ℕ → ℕ → List ℕ → List ℕ → CommitParts
parts_from metadata parent related subject body time tree meta =
    record { metadata = metadata; parent = parent_bytes parent; related = related; subject = subject; body = body; time = time; tree = tree; meta = meta }
