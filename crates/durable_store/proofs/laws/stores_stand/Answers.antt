use Rattle.ost_types.specs.declared.object.Kind.TheVariants.{Commit}
use Rattle.repo_model.specs.Trees.{name_of}
use Rattle.durable_store.proofs.Files.{commit_file}
use Rattle.durable_store.proofs.Starts.{stands_begin}
use Rattle.durable_store.proofs.Steps.{stands_kept}
use Rattle.durable_store.proofs.laws.stores_stand.Goals as goal

pub returns-clause-begins : goal.returns-clause-begins
returns-clause-begins g c state v limits names begins tree good all is = stands_begin state v limits names begins tree good all g.B.Storing.brings g.B.Storing.config is

pub returns-clause-goes_on : goal.returns-clause-goes_on
returns-clause-goes_on g c limits names v w stays writes keeps was = stands_kept limits g.B.Storing.brings v w stays g.S.Writing.writes writes keeps g.B.Storing.config names was

pub returns-clause-files : goal.returns-clause-files
returns-clause-files g c limits names v commit s stands sum may there = commit_file limits.content commit s (stands.objects (name_of Commit commit) sum s may there)
