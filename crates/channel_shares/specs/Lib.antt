pub mod OnChannel
