-- Where things stand (OSTree manual, "Anatomy of an OSTree repository" and "Deployments").
use Rattle.std.specs.Prelude.{◌++◌, ◌∷◌, [], ℕ, List, take, drop, codes}
use Rattle.std.specs.Fmt.{decimal}
use Rattle.ost_types.specs.Path.{Name, Path}
use Rattle.ost_types.specs.Csum.{hex_of}
use Rattle.ost_types.specs.declared.object.Kind.{Kind}
use Rattle.ost_types.specs.declared.object.Kind.TheVariants.{Commit, DirTree, DirMeta, File}
use Rattle.repo_layout.specs.RefName.{parts_of}
use Rattle.repo_layout.specs.declared.folder.Folder.{Folder}
use Rattle.repo_layout.specs.declared.folder.Folder.TheVariants.{Ostree, Repo, Objects, Refs, Heads, State, Tmp, Deploy, Boot, Kernels, Checkouts}

-- a path in the repository
abbrev pub in_repo : Path → Path
in_repo rest = codes "ostree" ∷ codes "repo" ∷ rest

-- the folders that are there from the beginning
abbrev pub folder_path : Folder → Path
folder_path Ostree = codes "ostree" ∷ []
folder_path Repo = in_repo []
folder_path Objects = in_repo (codes "objects" ∷ [])
folder_path Refs = in_repo (codes "refs" ∷ [])
folder_path Heads = in_repo (codes "refs" ∷ codes "heads" ∷ [])
folder_path State = in_repo (codes "state" ∷ [])
folder_path Tmp = in_repo (codes "tmp" ∷ [])
folder_path Deploy = codes "ostree" ∷ codes "deploy" ∷ []
folder_path Boot = codes "boot" ∷ []
folder_path Kernels = codes "boot" ∷ codes "ostree" ∷ []
folder_path Checkouts = codes "checkout" ∷ []

abbrev pub config_path : Path
config_path = in_repo (codes "config" ∷ [])

-- the folder of the refs
abbrev pub heads : Path
heads = folder_path Heads

abbrev pub heads_text : List ℕ
heads_text = codes "/ostree/repo/refs/heads"

-- where a ref stands, by its name
unfoldable pub ref_path : List ℕ → Path
ref_path name = heads ++ parts_of name

-- what an object's name ends with
abbrev pub ending : Kind → List ℕ
ending Commit = codes ".commit"
ending DirTree = codes ".dirtree"
ending DirMeta = codes ".dirmeta"
ending File = codes ".file"

-- where objects stand: the first two digits of the sum are a folder
unfoldable pub objects_folder_path : List ℕ → Path
objects_folder_path sum = in_repo (codes "objects" ∷ take 2 (hex_of sum) ∷ [])

unfoldable pub object_path : Kind → List ℕ → Path
object_path kind sum = in_repo (codes "objects" ∷ take 2 (hex_of sum) ∷ (drop 2 (hex_of sum) ++ ending kind) ∷ [])

-- where the mark of a commit stands
unfoldable pub mark_path : List ℕ → Path
mark_path commit = in_repo (codes "state" ∷ (hex_of commit ++ codes ".commitpartial") ∷ [])

-- where an actor stages
unfoldable pub stage_path : ℕ → Path
stage_path actor = in_repo (codes "tmp" ∷ (codes "actor-" ++ decimal actor) ∷ [])

-- where the files of a deployment stand
unfoldable pub deploy_path : Name → List ℕ → ℕ → Path
deploy_path os commit serial = codes "ostree" ∷ codes "deploy" ∷ os ∷ codes "deploy" ∷ (hex_of commit ++ (46 ∷ decimal serial)) ∷ []
