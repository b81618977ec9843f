use Rattle.nbd_words.proofs.OneReading.{one_option, one_request, one_info}
use Rattle.nbd_words.proofs.reading.one_reading.Goals as goal

pub returns : goal.returns
returns c = record { option = one_option; request = one_request; info = one_info }
