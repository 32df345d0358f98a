use Rattle.std.proofs.Common.{arith}
use Rattle.repo_layout.proofs.Places.{place-config, place-stage, place-ref, place-objects_folder, place-object, place-mark, place-deployment, place-etc, place-origin_in, place-summary, place-back}
use Rattle.repo_layout.proofs.laws.places_of_things.Goals as goal

pub returns-clause-config : goal.returns-clause-config
returns-clause-config c = place-config

pub returns-clause-stages : goal.returns-clause-stages
returns-clause-stages c = λ actor rest less. place-stage actor rest (omega (arith, less))

pub returns-clause-refs : goal.returns-clause-refs
returns-clause-refs c = place-ref

pub returns-clause-folders : goal.returns-clause-folders
returns-clause-folders c = place-objects_folder

pub returns-clause-objects : goal.returns-clause-objects
returns-clause-objects c = place-object

pub returns-clause-marks : goal.returns-clause-marks
returns-clause-marks c = place-mark

pub returns-clause-deployments : goal.returns-clause-deployments
returns-clause-deployments c = λ os commit serial rest is less. place-deployment os commit serial is (omega (arith, less)) rest

pub returns-clause-changeable : goal.returns-clause-changeable
returns-clause-changeable c = λ os commit serial rest is less. place-etc os commit serial is (omega (arith, less)) rest

pub returns-clause-origins : goal.returns-clause-origins
returns-clause-origins c = λ os commit serial rest is less. place-origin_in os commit serial is (omega (arith, less)) rest

pub returns-clause-summary : goal.returns-clause-summary
returns-clause-summary c = place-summary

pub returns-clause-back : goal.returns-clause-back
returns-clause-back c = place-back
