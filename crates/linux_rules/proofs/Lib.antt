mod Linux_6_1
mod Linux_6_12
mod Linux_6_16
mod Linux_6_17
mod Linux_6_18_15
mod Linux_6_18
mod Linux_7_2
