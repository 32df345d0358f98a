use Rattle.durable_deployments.proofs.Standing.{stands_begins, stands_left, stands_on}
use Rattle.durable_deployments.proofs.laws.deployments_stand.Goals as goal

pub returns-clause-begins : goal.returns-clause-begins
returns-clause-begins c limits v id bootcsum tree settled is = stands_begins v tree settled limits id bootcsum is

pub returns-clause-goes_on : goal.returns-clause-goes_on
returns-clause-goes_on c limits v w id bootcsum spares stands = stands_on limits v w id bootcsum spares stands

pub returns-clause-images : goal.returns-clause-images
returns-clause-images c limits v d id bootcsum tree stands i = stands_left limits v d id bootcsum tree stands i
