use Rattle.durable_store.proofs.Images.{few_image}
use Rattle.durable_store.proofs.Keepings.{disk_good, good_store}
use Rattle.durable_store.proofs.laws.images_of_stores.Goals as goal

pub returns-clause-few : goal.returns-clause-few
returns-clause-few g c limits names v d most stands i few = few_image limits g.B.Storing.brings g.B.Storing.config names v stands d i most few

pub returns-clause-good : goal.returns-clause-good
returns-clause-good g c limits names v d stands few leads i = disk_good limits g.B.Storing.brings g.B.Storing.config names v stands few leads d i

pub returns-clause-store : goal.returns-clause-store
returns-clause-store g c limits d good alone = good_store limits g.B.Storing.brings g.B.Storing.config d good alone
