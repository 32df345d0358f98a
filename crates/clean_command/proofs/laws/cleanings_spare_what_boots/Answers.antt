use Rattle.clean_command.proofs.Sparing.{written_alone, written_off_deployment, written_off_list, written_place, written_selected}
use Rattle.clean_command.proofs.laws.cleanings_spare_what_boots.Goals as goal

pub returns-clause-places : goal.returns-clause-places
returns-clause-places c = λ actor lane t v b p s f write. written_place actor lane t v b p s f write

pub returns-clause-list : goal.returns-clause-list
returns-clause-list c = λ actor lane t v b base rows p s f listed are write. written_off_list actor lane t v b p s f write base rows listed are

pub returns-clause-deployments : goal.returns-clause-deployments
returns-clause-deployments c = λ actor lane t v b base rows row p s f listed are among write. written_off_deployment actor lane t v b p s f write base rows row listed are among

pub returns-clause-selected : goal.returns-clause-selected
returns-clause-selected c = λ actor lane t v b p s f write. written_selected actor lane t v b p s f write

pub returns-clause-alone : goal.returns-clause-alone
returns-clause-alone c = λ actor lane t v b p s q f holds relists write shown. written_alone actor lane t v b p s f write q holds relists shown
