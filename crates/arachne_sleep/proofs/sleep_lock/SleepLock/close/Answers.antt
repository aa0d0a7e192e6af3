use Rattle.arachne_sleep.proofs.OneHolderLaw.{one_holder}
use Rattle.arachne_sleep.proofs.sleep_lock.SleepLock.close.Goals as goal

pub returns-clause-one_holder : goal.returns-clause-one_holder
returns-clause-one_holder c = one_holder c.into_history.result.items c.into_history.ensures.sound.lawful
