use Rattle.fs_trait.proofs.Images.{settled-alone, Image-tree}
use Rattle.fs_trait.proofs.laws.image_of_image.Goals as goal

pub returns-clause-same : goal.returns-clause-same
returns-clause-same c = λ v d e tree image again. settled-alone d e (Image-tree v d tree image) again
